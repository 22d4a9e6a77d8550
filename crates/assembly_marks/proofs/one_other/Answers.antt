-- `assembly_marks::one_other` is 0 for the mark that is asked for. Assumes nothing.
use mathlib.Core.Path.{sym}
use borrow.Author.Tests.{eq-eqb, ne_eqb}
use Rattle.assembly_marks.proofs.one_other.Goals as goal

pub returns-then-mark-asked : goal.returns-then-mark-asked
returns-then-mark-asked c = sym (rw (eq-eqb c.args.mark c.args.asked c.if-mark-asked.true))

pub returns-else-mark-asked : goal.returns-else-mark-asked
returns-else-mark-asked c = sym (rw (ne_eqb c.args.mark c.args.asked c.if-mark-asked.false))
