-- `tidy_speeds_placed::left_of` meets its contract. Assumes nothing.
use native.Mathlib.Omega.{arith}
use Rattle.tidy_speeds_placed.proofs.left_of.Goals as goal

pub returns-then-change : goal.returns-then-change
returns-then-change c = rw c.if-change.true

pub returns : goal.returns
returns c = rw c.if-change.false (omega arith)
