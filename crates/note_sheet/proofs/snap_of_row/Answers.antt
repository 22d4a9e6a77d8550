-- `note_sheet::snap_of_row` is `snap_of`. Assumes nothing.
use mathlib.Core.Path.{ap, ◌∙◌}
use mir.Syntax.{w32}
use mir.ValLaws.{to_z-of_z}
use Rattle.note_sheet.specs.Snap.{first_rule, snap_of}
use Rattle.note_sheet.proofs.SnapOfRow.{place-below}
use Rattle.note_sheet.proofs.snap_of_row.Goals as goal

pub snap_of_place-requires : goal.snap_of_place-requires
snap_of_place-requires c = rw c.place_in_beat.ensures (place-below _)

pub returns : goal.returns
returns c = c.snap_of_place.ensures ∙ ap first_rule c.place_in_beat.ensures ∙ ap snap_of (to_z-of_z w32 c.args.row c.ranges.row)
