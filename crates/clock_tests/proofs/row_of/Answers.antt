-- `clock_tests::row_of` is the row of the beat widened. Assumes nothing.
use Rattle.std.proofs.Common.{ap, ◌∙◌, w32}
use mir.ValLaws.{to_z-of_z}
use lib.Ieee.{binary64}
use Rattle.rows.specs.Rows.{row}
use Rattle.clock_tests.proofs.row_of.Goals as goal

pub returns : goal.returns
returns c =
    to_z-of_z w32 c.beat_to_note_row.result (record { sfits = c.beat_to_note_row.type_inv }) ∙ c.beat_to_note_row.ensures ∙ ap (row binary64) c.f32_to_f64_with_nan.ensures
