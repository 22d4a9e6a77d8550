-- Speeds in no order, placed one by one. Definitions only.
use Rattle.std.specs.Prelude.{[], map}
use Rattle.order.specs.Order.{run}
use Rattle.rows.specs.RowKey.{row_key_at}
use Rattle.tidy_kept.specs.Keeping.{placed, placing_number}
use Rattle.columns.specs.declared.Outcome.{Outcome}
use Rattle.chart.specs.ChartColumns.{SpeedColumns}
use Rattle.tidy_speeds_entries.specs.Speed.{near_speed, speeds_in, speed_on_row}
use Rattle.tidy_speeds_entries.specs.LaidSpeeds.{LaysSpeeds}

-- the one outcome: what is kept, each on its row. Columns that differ in length are read as far as the shortest goes
abbrev pub PlacedTidied : (speeds : SpeedColumns) → Outcome → (old new : SpeedColumns) → Type 0
PlacedTidied speeds outcome old new =
    LaysSpeeds (placing_number row_key_at near_speed (speeds_in speeds)) (map speed_on_row (run (placed row_key_at near_speed) [] (speeds_in speeds))) outcome old new
