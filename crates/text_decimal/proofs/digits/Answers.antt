-- `text_decimal::digits` meets its contract, with a leading digit and without. Assumes nothing.
use mathlib.Core.Path.{sym, refl}
use borrow.Author.Tests.{eq-eqb, ne_eqb}
use Rattle.text_decimal.proofs.digits.Goals as goal

pub returns-then-pattern-eq0 : goal.returns-then-pattern-eq0
returns-then-pattern-eq0 c = sym (rw (eq-eqb _ 0 c.if-pattern-eq0.true) refl)

pub returns-else-pattern-eq0 : goal.returns-else-pattern-eq0
returns-else-pattern-eq0 c = sym (rw (ne_eqb _ 0 c.if-pattern-eq0.false) refl)
