-- `clock_walk::row_after` is `row_after`. Assumes nothing.
use Rattle.std.proofs.Common.{◌∙◌, le-ltb, lt-ltb}
use Rattle.rows.proofs.BackFromBits.{back}
use Rattle.clock_walk.specs.Soon.{row_after}
use Rattle.clock_walk.proofs.row_after.Goals as goal

pub returns-then-place-beats : goal.returns-then-place-beats
unfolding row_after
returns-then-place-beats c = rw (lt-ltb _ _ c.if-place-beats.true) (back c.row_at.result (record { sfits = c.row_at.type_inv }) ∙ c.row_at.ensures)

pub returns : goal.returns
unfolding row_after
returns c = rw (le-ltb _ _ c.if-place-beats.false)
