-- `tidy_speeds_placed::place_all` places entry after entry. Assumes nothing.
use mathlib.Core.Path.{◌≡◌}
use lib.ListN.{length}
use Rattle.rows.specs.RowKey.{row_key_at}
use Rattle.tidy_speeds_entries.specs.Speed.{near_speed, speed_values, speed_entries}
use Rattle.tidy_kept.proofs.PlacedInColumns.{PlacingAll}
use Rattle.tidy_speeds_placed.proofs.place_all.Given as goal

abbrev pub invariant-loop-i : goal.invariant-loop-i
invariant-loop-i l = (length l.kept_beats ≡ 1024) × (length l.kept_ratios ≡ 1024) × (length l.kept_delays ≡ 1024) × (length l.kept_units ≡ 1024) × PlacingAll row_key_at near_speed (speed_entries l.beats l.ratios l.delays l.units) l.kept_beats (speed_values l.kept_ratios l.kept_delays l.kept_units) l.kept.count l.kept.falls l.i
