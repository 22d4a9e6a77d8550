-- A list of speeds over the fronts of four rooms. Definitions only.
use Rattle.std.specs.Prelude.{ℕ, List, map, ◌≡◌, Float}
use Rattle.order.specs.Order.{laid}
use Rattle.order.specs.Entries.{first}
use Rattle.chart.specs.ChartColumns.{SpeedColumns}
use Rattle.tidy_speeds_entries.specs.Speed.{SpeedEntry}
use Rattle.tidy_speeds_entries.specs.LaidSpeeds.{ratio_of, delay_of, unit_of}

-- a list over the fronts of four rooms
pub record LaidRooms (list : List SpeedEntry)
    (beats_old beats_new ratios_old ratios_new delays_old delays_new : List Float) (units_old units_new : List ℕ) : Type 0 where
  pub beats_are : beats_new ≡ laid (map first list) beats_old
  pub ratios_are : ratios_new ≡ laid (map ratio_of list) ratios_old
  pub delays_are : delays_new ≡ laid (map delay_of list) delays_old
  pub units_are : units_new ≡ laid (map unit_of list) units_old

-- the same, with the rooms as columns
abbrev pub LaidOver : List SpeedEntry → (old new : SpeedColumns) → Type 0
LaidOver list old new =
    LaidRooms list
    old.beats new.beats old.ratios new.ratios
    old.delays new.delays old.units new.units
