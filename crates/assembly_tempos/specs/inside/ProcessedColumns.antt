-- Processed columns, as the steps of assembly take them: what they are, and room for them. Definitions only.
use Rattle.std.specs.Prelude.{ℕ, ◌+◌, ◌≤◌, min, Bool, true, not, ◌&&◌, List, map, ◌≡◌, length, Float}
use Rattle.std.specs.Float.{binary32}
use Rattle.std.specs.Float.Ieee.{fits, is_nan}
use Rattle.limits.specs.Table.{most_entries}
use Rattle.rows.specs.Rows.{quantized}
use Rattle.limits.specs.Numbers.{every}
use Rattle.order.specs.Order.{laid}
use Rattle.order.specs.Entries.{entries}
use Rattle.columns.specs.Laying.{LaidList}
use Rattle.columns_each.specs.declared.ListOutcome.{ListOutcome}
use Rattle.columns_each.specs.OffGrid.{moved_in}
use Rattle.tidy_rows.specs.RowTidying.{rows_number}
use Rattle.tidy_warps.specs.Marks.{is_mark}
use Rattle.assembly_rows.specs.declared.Meaning.TheVariants.{Lengths}
use Rattle.assembly_rows.specs.AssembledRows.{change_by, assembled_rows}
use Rattle.assembly_marks.specs.AssembledMarks.{assembled_marks}
use Rattle.chart.specs.declared.TimingFormat.{TimingFormat}
use Rattle.chart.specs.declared.TimingFormat.TheVariants.{Sm}
use Rattle.process.specs.ByFormat.{ThreeLists}
use Rattle.process_raw.specs.LentLists.{ThreeColumns}
use Rattle.process_raw.specs.RawLists.{list_room}

-- an f32, and no NaN
abbrev pub held_f32 : Float → Bool
held_f32 x = fits binary32 x && not (is_nan x)

-- of SM each is
abbrev pub Held : TimingFormat → List Float → Type 0
Held format values = format ≡ Sm → every held_f32 values ≡ true

-- processed columns: of one length each, tempos on rows, stops taken and on rows, and as many warps as a list may have are taken
pub record Processed (columns : ThreeColumns) : Type 0 where
  pub tempos : length columns.tempos.beats ≡ length columns.tempos.values
  pub tempos_on_rows : map quantized columns.tempos.beats ≡ columns.tempos.beats
  pub stops : rows_number columns.stops.beats columns.stops.values ≡ 0
  pub on_rows : map quantized columns.stops.beats ≡ columns.stops.beats
  pub even : length columns.warps.beats ≡ length columns.warps.values
  pub warps : length columns.warps.beats ≤ most_entries → rows_number columns.warps.beats columns.warps.values ≡ 0

-- the marks of the given ones among so many warps, and how many are made behind them
pub record MarksBeside (beats : List Float) (marks : List ℕ) (made : ℕ) : Type 0 where
  pub as_many : length marks + made ≡ length beats
  pub are_marks : every is_mark marks ≡ true

-- warps that are taken with their marks, and rooms that what is left of them fits
pub record WarpsFit (beats lengths : List Float) (marks : List ℕ) (beat_room length_room mark_room : ℕ) : Type 0 where
  pub list : rows_number beats lengths ≡ 0
  pub even : length beats ≡ length marks
  pub are_marks : every is_mark marks ≡ true
  pub fits : length (assembled_rows (change_by Lengths) beats lengths) ≤ min (min beat_room length_room) mark_room

-- assembled warps with their marks over the fronts of their rooms, and how many were off the grid
pub record WarpsWritten (beats lengths : List Float) (marks : List ℕ) (warps : ListOutcome)
    (beats_old beats_new lengths_old lengths_new : List Float) (marks_old marks_new : List ℕ) : Type 0 where
  pub list : LaidList 0 (assembled_rows (change_by Lengths) beats lengths) warps.outcome.count beats_old beats_new lengths_old lengths_new
  pub marks_are : marks_new ≡ laid (assembled_marks beats marks) marks_old
  pub moved : warps.moved ≡ moved_in beats

-- columns as lists
abbrev pub lists_of : ThreeColumns → Float → ThreeLists
lists_of columns offset = record {
  tempos = entries columns.tempos.beats columns.tempos.values;
  stops = entries columns.stops.beats columns.stops.values;
  warps = entries columns.warps.beats columns.warps.values;
  offset = offset;
}

-- work columns with room for what processing makes of lists that are taken
pub record WorkRooms (number : ℕ) (lists : ThreeLists) (rooms : ThreeColumns) : Type 0 where
  pub tempos : number ≡ 0 → length lists.tempos ≤ list_room rooms.tempos
  pub stops : number ≡ 0 → length lists.stops ≤ list_room rooms.stops
  pub warps : number ≡ 0 → length lists.warps ≤ list_room rooms.warps
