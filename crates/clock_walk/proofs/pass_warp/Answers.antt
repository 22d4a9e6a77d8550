-- `clock_walk::pass_warp` meets its contract. Assumes nothing.
use Rattle.clock_walk.specs.Passing.{after_warp}
use Rattle.rows.proofs.BackFromBits.{back}
use Rattle.clock_walk.proofs.pass_warp.Goals as goal

pub returns : goal.returns
unfolding after_warp
returns c = let s = c in rw (c.larger_of-end.ensures, back s.args.row s.ranges.row)
