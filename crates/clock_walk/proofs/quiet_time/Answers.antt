-- `clock_walk::quiet_time` is the time at a row up to which nothing is passed. Assumes nothing.
use lib.Ieee.{of_bits}
use Rattle.rows.proofs.BackFromBits.{back}
use Rattle.clock_walk.proofs.quiet_time.Goals as goal

pub returns : goal.returns
unfolding of_bits
returns c =
    let s = c in
    rw (c.time_at.ensures, back s.args.asked s.ranges.asked)
