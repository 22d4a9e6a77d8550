-- The front of four columns as f32. Definitions only.
use Rattle.std.specs.Prelude.{ℕ, List, map, ◌≡◌, length, take}
use Rattle.chart.specs.ChartColumns.{SpeedColumns}
use Rattle.tidy_speeds_entries.specs.Speed.{SpeedEntry, speed_entries}
use Rattle.assembly_speeds.specs.AssembledSpeeds.{narrowed_speed}

-- the first n entries of four columns, as f32
abbrev pub narrowed_speeds : ℕ → SpeedColumns → List SpeedEntry
narrowed_speeds n list = map narrowed_speed (speed_entries (take n list.beats) (take n list.ratios) (take n list.delays) (take n list.units))

-- columns of one length
pub record EvenSpeeds (list : SpeedColumns) : Type 0 where
  pub ratios_even : length list.beats ≡ length list.ratios
  pub delays_even : length list.beats ≡ length list.delays
  pub units_even : length list.beats ≡ length list.units
