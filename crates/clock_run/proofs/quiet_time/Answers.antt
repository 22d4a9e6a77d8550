-- `clock_run::quiet_time` is `quiet_time`. Assumes nothing.
use lib.Ieee.{of_bits}
use Rattle.rows.proofs.BackFromBits.{back}
use Rattle.clock_run.specs.inside.Outlook.{quiet_time}
use Rattle.clock_run.proofs.quiet_time.Goals as goal

pub returns-then-warping : goal.returns-then-warping
unfolding quiet_time of_bits
returns-then-warping c = rw c.if-warping.true

pub returns : goal.returns
unfolding quiet_time
returns c =
    let s = c in
    rw (
      c.if-warping.false,
      c.beats_between-beats.ensures,
      back s.args.row s.ranges.row,
      back s.args.state.row (record { sfits = c.struct_told-1.given.1.1.1.1.0.1 }),
    )
