-- `tidy_speeds_placed::speed_of` meets its contract. Assumes nothing.
use native.Mathlib.Omega.{arith}
use Rattle.tidy_speeds_placed.proofs.speed_of.Goals as goal

pub overflow_sub-change : goal.overflow_sub-change
overflow_sub-change c = let some = c.requires.high_nonzero c.if-change.true in omega arith

pub speed_at-requires : goal.speed_at-requires
speed_at-requires c = let g = c in let some = g.requires.high_nonzero c.if-change.true in (omega (arith, g.requires.high_in_bounds.0), omega (arith, g.requires.high_in_bounds.1), omega (arith, g.requires.high_in_bounds.2))

pub returns-then-change : goal.returns-then-change
returns-then-change c = rw c.if-change.true c.speed_at.ensures

pub returns : goal.returns
returns c = rw c.if-change.false
