-- `clock_walk::time_at` is `time_at`. Assumes nothing.
use Rattle.clock_walk.specs.Passing.{time_at}
use Rattle.rows.proofs.BackFromBits.{back}
use Rattle.clock_walk.proofs.time_at.Goals as goal

pub returns : goal.returns
unfolding time_at
returns c = let s = c in rw (c.time_to.ensures, back s.args.row s.ranges.row)
