-- `clock_walk::greater_of` is `greater_row`. Assumes nothing.
use Rattle.std.proofs.Common.{true, false}
use Rattle.clock_walk.specs.EndMark.{greater_row}
use Rattle.rows.proofs.BackFromBits.{back, tested}
use Rattle.clock_walk.proofs.greater_of.Goals as goal

pub returns-then-one-other : goal.returns-then-one-other
unfolding greater_row
returns-then-one-other c =
    let s = c in
    rw (tested s.args.one s.args.other s.ranges.one s.ranges.other true c.if-one-other.true) (back s.args.other s.ranges.other)

pub returns : goal.returns
unfolding greater_row
returns c =
    let s = c in
    rw (tested s.args.one s.args.other s.ranges.one s.ranges.other false c.if-one-other.false) (back s.args.one s.ranges.one)
