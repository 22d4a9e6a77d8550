-- Speed tidying. Definitions only.
use Rattle.std.specs.Prelude.{ℕ, List, map, ltb, eqb, length, Float}
use Rattle.limits.specs.Table.{too_long_number, uneven, bad_beat, bad_value, most_entries}
use Rattle.picks.specs.Pick.{pick}
use Rattle.limits.specs.declared.Kind.TheVariants.{Beat, Value}
use Rattle.limits.specs.Numbers.{range_of, all_in, units_in}
use Rattle.limits.specs.Refusals.{lower}
use Rattle.chart.specs.ChartColumns.{SpeedColumns}
use Rattle.columns.specs.declared.Outcome.{Outcome}
use Rattle.rows.specs.RowKey.{row_key_at}
use Rattle.tidy_kept.specs.Keeping.{kept_of, keep_number}
use Rattle.tidy_speeds_entries.specs.Speed.{SpeedEntry, near_speed, speed_entries, speed_on_row}
use Rattle.tidy_speeds_entries.specs.LaidSpeeds.{LaidSpeeds, LaysSpeeds}

-- 4 where a ratio, a delay or a unit is out of range
unfoldable pub values_number : List Float → List Float → List ℕ → ℕ
values_number ratios delays units = pick (all_in (range_of Value) ratios) (pick (all_in (range_of Value) delays) (pick (units_in units) 0 bad_value) bad_value) bad_value

-- a list of four columns by itself: too long, columns that differ in length, a beat, then the others
unfoldable pub speed_list_number : List Float → List Float → List Float → List ℕ → ℕ
speed_list_number beats ratios delays units =
    pick (ltb most_entries (length beats)) too_long_number
    (pick (ltb most_entries (length ratios)) too_long_number
    (pick (ltb most_entries (length delays)) too_long_number
    (pick (ltb most_entries (length units)) too_long_number
    (pick (eqb (length beats) (length ratios))
    (pick (eqb (length beats) (length delays))
    (pick (eqb (length beats) (length units))
    (pick (all_in (range_of Beat) beats) (values_number ratios delays units) bad_beat)
    uneven)
    uneven)
    uneven))))

-- the kept entries, each on its row
unfoldable pub tidy_speeds : List Float → List Float → List Float → List ℕ → List SpeedEntry
tidy_speeds beats ratios delays units = map speed_on_row (kept_of row_key_at near_speed (speed_entries beats ratios delays units))

-- the tests of the list, then whether an entry is placed in a kept list that falls
unfoldable pub speeds_number : List Float → List Float → List Float → List ℕ → ℕ
speeds_number beats ratios delays units =
    lower (speed_list_number beats ratios delays units) (keep_number row_key_at near_speed (speed_entries beats ratios delays units))

-- the one outcome of the call, with the four rooms before and after
abbrev pub SpeedsTidied : (beats ratios delays : List Float) (units : List ℕ) → Outcome
    → (beats_old beats_new ratios_old ratios_new delays_old delays_new : List Float) (units_old units_new : List ℕ) → Type 0
SpeedsTidied beats ratios delays units outcome = LaidSpeeds (speeds_number beats ratios delays units) (tidy_speeds beats ratios delays units) outcome

-- the same, with list and rooms as columns
abbrev pub TidiesSpeeds : (speeds : SpeedColumns) → Outcome → (old new : SpeedColumns) → Type 0
TidiesSpeeds speeds outcome old new =
    LaysSpeeds (speeds_number speeds.beats speeds.ratios speeds.delays speeds.units)
    (tidy_speeds speeds.beats speeds.ratios speeds.delays speeds.units) outcome old new
