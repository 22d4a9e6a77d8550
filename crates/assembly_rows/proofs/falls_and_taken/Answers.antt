-- `assembly_rows::falls_and_taken` tests the numbers only where beats fall. Assumes nothing.
use Prim.Native.Nat.{ℕ}
use mathlib.Core.Path.{sym, ap, ◌∙◌}
use lib.Dec.{eqb}
use borrow.Author.Rules.{rules}
use Rattle.assembly_rows.proofs.falls_and_taken.Goals as goal

pub returns-then-falls_throughout : goal.returns-then-falls_throughout
returns-then-falls_throughout c = rw (sym c.falls_throughout.ensures ∙ c.if-falls_throughout.true) (ap (λ (n : ℕ). eqb n 0) c.list_number.ensures)

pub returns : goal.returns
returns c = rw (sym c.falls_throughout.ensures ∙ c.if-falls_throughout.false)
