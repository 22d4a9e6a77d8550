-- A speed: a ratio, a delay and a unit; and speeds that count as the same. Definitions only.
use Rattle.std.specs.Prelude.{ℕ, Bool, false, List, eqb, Float}
use Rattle.std.specs.Float.{nan}
use Rattle.picks.specs.Pick.{pick}
use Rattle.order.specs.Entries.{entries}
use Rattle.chart.specs.ChartColumns.{SpeedColumns}
use Rattle.rows.specs.RowKey.{beat_on_row}
use Rattle.tidy_kept.specs.Near.{near_to}
use Rattle.tidy_speeds_entries.specs.declared.Speed.{Speed}

-- the ratio, then the delay and the unit
abbrev pub SpeedValue : Type 0
SpeedValue = Float × (Float × ℕ)

-- a beat and what holds from there
abbrev pub SpeedEntry : Type 0
SpeedEntry = Float × SpeedValue

abbrev pub speed_value_of : Speed → SpeedValue
speed_value_of s = (s.ratio, (s.delay, s.unit))

-- ratios near, delays near, and one unit
unfoldable pub near_speed : SpeedValue → SpeedValue → Bool
near_speed a b = pick (near_to a.0 b.0) (pick (near_to a.1.0 b.1.0) (eqb a.1.1 b.1.1) false) false

-- what no speed is near
abbrev pub no_speed : SpeedValue
no_speed = (nan, (nan, 0))

-- three columns as one list, and with the beats
abbrev pub speed_values : List Float → List Float → List ℕ → List SpeedValue
speed_values ratios delays units = entries ratios (entries delays units)

abbrev pub speed_entries : List Float → List Float → List Float → List ℕ → List SpeedEntry
speed_entries beats ratios delays units = entries beats (speed_values ratios delays units)

abbrev pub speeds_in : SpeedColumns → List SpeedEntry
speeds_in speeds = speed_entries speeds.beats speeds.ratios speeds.delays speeds.units

-- an entry moved to its row
abbrev pub speed_on_row : SpeedEntry → SpeedEntry
speed_on_row e = (beat_on_row e.0, e.1)
