-- `tidy_scrolls::place_all` places entry after entry. Assumes nothing.
use mathlib.Core.Path.{◌≡◌}
use Rattle.tidy_kept.proofs.PlacedInColumns.{PlacingAll}
use Rattle.rows.specs.RowKey.{row_key_at}
use Rattle.tidy_kept.specs.Near.{near_to}
use Rattle.order.specs.Entries.{entries}
use lib.ListN.{length}
use Rattle.tidy_scrolls.proofs.place_all.Given as goal

abbrev pub invariant-loop-i : goal.invariant-loop-i
invariant-loop-i l = (length l.kept_beats ≡ length l.initial.kept_beats) × (length l.kept_values ≡ length l.initial.kept_values) × PlacingAll row_key_at near_to (entries l.beats l.values) l.kept_beats l.kept_values l.kept.count l.kept.falls l.i
