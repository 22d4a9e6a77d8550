-- `mend_text::put_word` meets its contract, word by word. Assumes nothing.
use borrow.Author.Tests.{eq-eqb, ne_eqb}
use Rattle.mend_text.proofs.put_word.Goals as goal

pub returns-then-fate-eq-KEPT : goal.returns-then-fate-eq-KEPT
returns-then-fate-eq-KEPT c = let put = c in rw (eq-eqb put.args.fate 0 put.if-fate-eq-KEPT.true) put.put_bytes.ensures

pub returns-then-fate-eq-REPLACED : goal.returns-then-fate-eq-REPLACED
returns-then-fate-eq-REPLACED c = let put = c in let second = put in rw (ne_eqb put.args.fate 0 second.if-fate-eq-KEPT.false, eq-eqb put.args.fate 1 second.if-fate-eq-REPLACED.true) put.put_bytes-then-fate-eq-REPLACED.ensures

pub returns : goal.returns
returns c = let put = c in let second = put in rw (ne_eqb put.args.fate 0 second.if-fate-eq-KEPT.false, ne_eqb put.args.fate 1 second.if-fate-eq-REPLACED.false) put.put_bytes-2.ensures
