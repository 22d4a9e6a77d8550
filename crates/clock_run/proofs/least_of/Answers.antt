-- `clock_run::least_of` is `lesser_row`. Assumes nothing.
use Rattle.std.proofs.Common.{true, false}
use Rattle.rows.proofs.BackFromBits.{back, tested}
use Rattle.clock_run.specs.inside.Outlook.{lesser_row}
use Rattle.clock_run.proofs.least_of.Goals as goal

pub returns-then-one-other : goal.returns-then-one-other
unfolding lesser_row
returns-then-one-other c =
    let s = c in
    rw (back s.args.one s.ranges.one, tested s.args.one s.args.other s.ranges.one s.ranges.other true c.if-one-other.true)

pub returns : goal.returns
unfolding lesser_row
returns c =
    let s = c in
    rw (back s.args.other s.ranges.other, tested s.args.one s.args.other s.ranges.one s.ranges.other false c.if-one-other.false)
