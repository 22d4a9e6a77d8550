-- What a mended list meets on its way, as the ordinary path defines it. Definitions only.
use Rattle.std.specs.Prelude.{◌≡◌, true, map}
use Rattle.ieee.specs.Narrowing.{narrow}
use Rattle.rows.specs.RowKey.{row_key_at}
use Rattle.limits.specs.Neighbours.{every_two, not_falling}
use Rattle.order.specs.Order.{Rises}
use Rattle.order.specs.Entries.{first, second}
use Rattle.chart.specs.ChartColumns.{ListColumns, SpeedColumns, speed_columns}
use Rattle.tidy_kept.specs.Near.{near_to}
use Rattle.tidy_kept.specs.Keeping.{row_of}
use Rattle.tidy_speeds_entries.specs.Speed.{near_speed}
use Rattle.tidy_speeds_entries.specs.LaidSpeeds.{ratio_of, delay_of, unit_of}
use Rattle.assembly_scrolls.specs.AssembledScrolls.{assembled_scrolls, assembled_scrolls_number}
use Rattle.assembly_speeds.specs.AssembledSpeeds.{assembled_speeds_number}
use Rattle.notes_displayed.specs.Answers.{scroll_columns_number}
use Rattle.mend_scrolls.specs.MendedScrolls.{mended_scrolls}
use Rattle.mend_speeds.specs.MendedSpeeds.{mended_speeds}

-- Scrolls that are mended rise strictly by f64 row, and their beats never fall when they are narrowed to f32; assembly takes them, so that it never answers 6;
-- and what it writes is taken where a beat is drawn, which has no 5 for it. Two entries may still meet on one row there, since assembly goes through f32.
pub record ScrollsOnTheirWay (scrolls : ListColumns) : Type 0 where
  pub rising : Rises (row_of row_key_at near_to) (mended_scrolls scrolls)
  pub narrowed : every_two not_falling (map narrow (map first (mended_scrolls scrolls))) ≡ true
  pub assembled : assembled_scrolls_number (map first (mended_scrolls scrolls)) (map second (mended_scrolls scrolls)) ≡ 0
  pub drawn :
      let written = assembled_scrolls (map first (mended_scrolls scrolls)) (map second (mended_scrolls scrolls)) in
      scroll_columns_number (map first written) (map second written) ≡ 0

-- the four columns of mended speeds
abbrev pub mended_columns : SpeedColumns → SpeedColumns
mended_columns speeds =
    let list = mended_speeds speeds in
    speed_columns (map first list) (map ratio_of list) (map delay_of list) (map unit_of list)

-- The same of speeds, by which nothing is drawn.
pub record SpeedsOnTheirWay (speeds : SpeedColumns) : Type 0 where
  pub rising : Rises (row_of row_key_at near_speed) (mended_speeds speeds)
  pub narrowed : every_two not_falling (map narrow (map first (mended_speeds speeds))) ≡ true
  pub assembled : assembled_speeds_number (mended_columns speeds) ≡ 0
