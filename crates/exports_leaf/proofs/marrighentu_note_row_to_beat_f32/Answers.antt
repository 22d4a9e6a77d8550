-- `exports_leaf::marrighentu_note_row_to_beat_f32` meets its contract. Assumes nothing.
use mir.ValLaws.{to_z-of_z}
use Rattle.exports_leaf.proofs.marrighentu_note_row_to_beat_f32.Goals as goal

pub returns : goal.returns
returns c = simp (to_z-of_z, c.ranges.row) at c.note_row_to_beat_f32.ensures
