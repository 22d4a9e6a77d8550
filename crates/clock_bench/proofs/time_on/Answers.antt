-- `clock_bench::time_on` meets its contract. Assumes nothing.
use lib.Ieee.{of_bits}
use Rattle.rows.proofs.BackFromBits.{back}
use Rattle.clock_bench.specs.RunningDown.{seconds_to, time_on}
use Rattle.clock_bench.proofs.time_on.Goals as goal

pub returns-then-warping : goal.returns-then-warping
unfolding time_on seconds_to of_bits
returns-then-warping c = rw c.if-warping.true

pub returns : goal.returns
unfolding time_on seconds_to of_bits
returns c =
    let s = c in
    rw (c.if-warping.false, c.beats_between-beats.ensures, back s.args.row s.ranges.row, back s.args.at.row (record { sfits = c.struct_told-1.given.0.1 }))
