-- `clock_walk::row_at` is `row_at`. Assumes nothing.
use Rattle.std.proofs.Common.{ap, ◌∙◌, le-ltb, lt-ltb}
use lib.Ieee.{binary64}
use Rattle.rows.specs.Rows.{row}
use Rattle.rows.proofs.BackFromBits.{back}
use Rattle.clock_walk.specs.Quiet.{row_at}
use Rattle.clock_walk.proofs.row_at.Goals as goal

pub returns-then-place-beats : goal.returns-then-place-beats
unfolding row_at
returns-then-place-beats c =
    rw (lt-ltb _ _ c.if-place-beats.true)
    (back c.beat_to_note_row.result (record { sfits = c.beat_to_note_row.type_inv }) ∙ c.beat_to_note_row.ensures ∙ ap (row binary64) c.f32_to_f64_with_nan.ensures)

pub returns : goal.returns
unfolding row_at
returns c = rw (le-ltb _ _ c.if-place-beats.false)
