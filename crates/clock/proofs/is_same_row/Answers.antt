-- `clock::is_same_row` is `same_row`. Assumes nothing.
use mathlib.Core.Bool.{true, false}
use Rattle.rows.proofs.BackFromBits.{back, tested}
use Rattle.clock.specs.Marked.{same_row}
use Rattle.clock.proofs.is_same_row.Goals as goal

pub returns-then-one-other : goal.returns-then-one-other
unfolding same_row
returns-then-one-other c =
    let s = c in
    rw (tested s.args.one s.args.other s.ranges.one s.ranges.other true c.if-one-other.true)

pub returns : goal.returns
unfolding same_row
returns c =
    let s = c in
    rw (tested s.args.one s.args.other s.ranges.one s.ranges.other false c.if-one-other.false, back s.args.one s.ranges.one, back s.args.other s.ranges.other)
