-- Speeds mended, and the one outcome of the call. Definitions only.
use Rattle.std.specs.Prelude.{ℕ, List, ◌≡◌, length}
use Rattle.order.specs.Order.{laid}
use Rattle.columns.specs.declared.Outcome.{Outcome}
use Rattle.columns.specs.Laying.{room_number, given}
use Rattle.chart.specs.ChartColumns.{SpeedColumns}
use Rattle.tidy_speeds_entries.specs.Speed.{SpeedEntry, near_speed, speeds_in}
use Rattle.tidy_speeds_entries.specs.LaidSpeeds.{LaysSpeeds}
use Rattle.tidy_speeds.specs.SpeedTidying.{speed_list_number}
use Rattle.mend_fates.specs.MendedLists.{mended_list, fate_bytes}

-- the written list, and of each raw entry its fate
abbrev pub mended_speeds : SpeedColumns → List SpeedEntry
mended_speeds speeds = mended_list near_speed (speeds_in speeds)

abbrev pub speed_fates : SpeedColumns → List ℕ
speed_fates speeds = fate_bytes near_speed (speeds_in speeds)

-- the tests of the list, 1 to 4
abbrev pub speed_tests : SpeedColumns → ℕ
speed_tests speeds = speed_list_number speeds.beats speeds.ratios speeds.delays speeds.units

-- The one outcome of the call, with the rooms of the list and of the fates before and after: 1 to 4 by the tests, then 7 where the fates or the list are longer
-- than their room. The count is that of the written list; there are as many fates as raw entries.
pub record SpeedsMended (speeds : SpeedColumns) (outcome : Outcome) (old new : SpeedColumns) (fates_old fates_new : List ℕ) : Type 0 where
  pub list : LaysSpeeds (room_number (speed_tests speeds) (length speeds.beats) (length fates_old)) (mended_speeds speeds) outcome old new
  pub fates_are : fates_new ≡ laid (given outcome.number (speed_fates speeds)) fates_old
