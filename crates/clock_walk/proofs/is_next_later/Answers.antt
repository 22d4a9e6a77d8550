-- `clock_walk::is_next_later` is `is_next_later`. Assumes nothing.
use Rattle.std.proofs.Common.{le-ltb, lt-ltb}
use Rattle.rows.proofs.BackFromBits.{back}
use Rattle.clock_walk.specs.Quiet.{is_next_later}
use Rattle.clock_walk.proofs.is_next_later.Goals as goal

pub returns-then-place-beats : goal.returns-then-place-beats
unfolding is_next_later
returns-then-place-beats c =
    let s = c in
    rw (lt-ltb _ _ c.if-place-beats.true) (rw (back s.args.asked s.ranges.asked) at c.is_later.ensures)

pub returns : goal.returns
unfolding is_next_later
returns c = rw (le-ltb _ _ c.if-place-beats.false)
