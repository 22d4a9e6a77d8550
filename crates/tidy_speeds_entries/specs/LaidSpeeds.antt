-- A list of speeds in four lent columns. Definitions only.
use Rattle.std.specs.Prelude.{ℕ, min, List, ◌≡◌, length, Float}
use Rattle.order.specs.Entries.{first}
use Rattle.chart.specs.ChartColumns.{SpeedColumns}
use Rattle.columns.specs.declared.Outcome.{Outcome}
use Rattle.columns.specs.Laying.{room_number, given, column_laid}
use Rattle.tidy_speeds_entries.specs.Speed.{SpeedEntry}

abbrev pub ratio_of : SpeedEntry → Float
ratio_of e = e.1.0

abbrev pub delay_of : SpeedEntry → Float
delay_of e = e.1.1.0

abbrev pub unit_of : SpeedEntry → ℕ
unit_of e = e.1.1.1

-- the least of four
abbrev pub least_of : ℕ → ℕ → ℕ → ℕ → ℕ
least_of a b c d = min (min a b) (min c d)

-- as many entries as four columns hold
abbrev pub least_length : SpeedColumns → ℕ
least_length speeds = least_of (length speeds.beats) (length speeds.ratios) (length speeds.delays) (length speeds.units)

-- The one outcome of a call whose result is a list of speeds: the number, the count, and the four rooms to their last place. The shortest room counts.
pub record LaidSpeeds (tests : ℕ) (result : List SpeedEntry) (outcome : Outcome)
    (beats_old beats_new ratios_old ratios_new delays_old delays_new : List Float) (units_old units_new : List ℕ) : Type 0 where
  pub number : outcome.number ≡ room_number tests (length result) (least_of (length beats_old) (length ratios_old) (length delays_old) (length units_old))
  pub count : outcome.count ≡ length (given outcome.number result)
  pub beats_are : beats_new ≡ column_laid first outcome.number result beats_old
  pub ratios_are : ratios_new ≡ column_laid ratio_of outcome.number result ratios_old
  pub delays_are : delays_new ≡ column_laid delay_of outcome.number result delays_old
  pub units_are : units_new ≡ column_laid unit_of outcome.number result units_old

-- the same, with the rooms as columns
abbrev pub LaysSpeeds : ℕ → List SpeedEntry → Outcome → (old new : SpeedColumns) → Type 0
LaysSpeeds tests result outcome old new =
    LaidSpeeds tests result outcome
    old.beats new.beats old.ratios new.ratios
    old.delays new.delays old.units new.units
