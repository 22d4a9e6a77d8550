-- `clock_walk::pass_warp_end` meets its contract. Assumes nothing.
use Rattle.clock_walk.specs.Passing.{after_warp_end}
use Rattle.rows.proofs.BackFromBits.{back}
use Rattle.clock_walk.proofs.pass_warp_end.Goals as goal

pub returns : goal.returns
unfolding after_warp_end
returns c =
    rw (back c.args.row c.ranges.row)
