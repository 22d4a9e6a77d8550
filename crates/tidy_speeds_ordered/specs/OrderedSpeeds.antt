-- What the one pass over speeds in order writes. Definitions only.
use Rattle.std.specs.Prelude.{false, List, map, Float}
use Rattle.ieee.specs.Constants.{plus_zero}
use Rattle.rows.specs.RowKey.{row_key_at}
use Rattle.tidy_kept.specs.Passing.{Waiting, still_written}
use Rattle.columns.specs.declared.Outcome.{Outcome}
use Rattle.chart.specs.ChartColumns.{SpeedColumns}
use Rattle.tidy_speeds_entries.specs.Speed.{SpeedValue, SpeedEntry, near_speed, no_speed, speeds_in, speed_on_row}
use Rattle.tidy_speeds_entries.specs.LaidSpeeds.{LaysSpeeds}

-- before the first entry
abbrev pub no_speed_held : Waiting Float SpeedValue
no_speed_held = record { before = no_speed; waits = false; row = 0; beat = plus_zero; value = no_speed }

-- what is written, as it was given
abbrev pub kept_speeds : List SpeedEntry → List SpeedEntry
kept_speeds list = still_written row_key_at near_speed no_speed_held list

-- the one outcome: what is written, each on its row. Columns that differ in length are read as far as the shortest goes
abbrev pub OrderedTidied : (speeds : SpeedColumns) → Outcome → (old new : SpeedColumns) → Type 0
OrderedTidied speeds outcome old new = LaysSpeeds 0 (map speed_on_row (kept_speeds (speeds_in speeds))) outcome old new
