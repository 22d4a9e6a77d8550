-- `clock_run::is_beyond` is `is_beyond`. Assumes nothing.
use Rattle.std.proofs.Common.{true, false}
use Rattle.rows.proofs.BackFromBits.{tested}
use Rattle.clock_run.specs.inside.Outlook.{is_beyond}
use Rattle.clock_run.proofs.is_beyond.Goals as goal

pub returns-then-mark-row : goal.returns-then-mark-row
unfolding is_beyond
returns-then-mark-row c =
    let s = c in
    rw (tested s.args.mark s.args.row s.ranges.mark s.ranges.row true c.if-mark-row.true, c.beat_number.ensures)

pub returns : goal.returns
unfolding is_beyond
returns c =
    let s = c in
    rw (tested s.args.mark s.args.row s.ranges.mark s.ranges.row false c.if-mark-row.false)
