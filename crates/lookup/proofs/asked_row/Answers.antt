-- `lookup::asked_row` is the row of an asked beat. Assumes nothing.
use mir.ValLaws.{to_z-of_z}
use Rattle.std.proofs.Common.{ap, ◌∙◌, w32}
use Rattle.rows.specs.Rows.{row}
use lib.Ieee.{binary32}
use Rattle.lookup.proofs.asked_row.Goals as goal

pub returns : goal.returns
returns c = to_z-of_z w32 c.beat_to_note_row_f32.result (record { sfits = c.beat_to_note_row_f32.type_inv }) ∙ c.beat_to_note_row_f32.ensures ∙ ap (row binary32) c.narrow_f64.ensures
