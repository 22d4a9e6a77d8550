-- The answer to lists of at most 256 entries. Definitions only.
use Rattle.std.specs.Prelude.{ℕ, List, [], map, ◌++◌, eqb, length, replicate, Float}
use Rattle.picks.specs.Pick.{pick}
use Rattle.ieee.specs.Narrowing.{narrow}
use Rattle.order.specs.Entries.{first, second}
use Rattle.tidy_speeds_entries.specs.Speed.{SpeedEntry}
use Rattle.tidy_speeds_entries.specs.LaidSpeeds.{ratio_of, delay_of, unit_of}
use Rattle.chart.specs.declared.TimingFormat.{TimingFormat}
use Rattle.chart.specs.ChartColumns.{ListColumns, list_columns, SpeedColumns, speed_columns, ChartColumns, room_for_each}
use Rattle.tidy_warps.specs.Marks.{written_mark}
use Rattle.assembly_marks.specs.AssembledMarks.{merged_marks, assembled_marks}
use Rattle.assembly_tempos.specs.AssembledTempos.{assembled_tempos, assembled_stops, assembled_warps, made_warps}
use Rattle.assembly_scrolls.specs.AssembledScrolls.{assembled_scrolls}
use Rattle.assembly_speeds.specs.AssembledSpeeds.{assembled_speeds}
use Rattle.assembly.specs.Assembly.{assembled_delays, assembled_fakes, processed_together, processed_chart, assembly_number, moved_beats, moved_total}
use Rattle.lookup_warped.specs.WarpedRows.{warped_rows}
use Rattle.report_text.specs.Output.{answer_line, lists_text}

-- entries as columns
abbrev pub columns_of : List (Float × Float) → ListColumns
columns_of list = list_columns (map first list) (map second list)

abbrev pub speed_columns_of : List SpeedEntry → SpeedColumns
speed_columns_of list = speed_columns (map first list) (map ratio_of list) (map delay_of list) (map unit_of list)

-- the input has no marks: each warp that is read is written
abbrev pub all_written : ListColumns → List ℕ
all_written warps = replicate (length warps.beats) written_mark

module _ (format : TimingFormat) (raw : ChartColumns) where
  -- the seven lists of the timing
  abbrev pub timing_lists : ChartColumns
  timing_lists = record {
    tempos = columns_of (assembled_tempos (processed_chart format raw));
    stops = columns_of (assembled_stops (processed_chart format raw));
    delays = columns_of (assembled_delays raw.delays.beats raw.delays.values);
    warps = columns_of (assembled_warps (processed_chart format raw));
    speeds = speed_columns_of (assembled_speeds raw.speeds);
    scrolls = columns_of (assembled_scrolls raw.scrolls.beats raw.scrolls.values);
    fakes = columns_of (assembled_fakes raw.fakes.beats raw.fakes.values);
  }

  -- assembly's number, with room for 256 entries a list and 256 merged warps at most
  abbrev pub taken_number : ℕ
  taken_number = assembly_number 256 format raw (all_written raw.warps) (room_for_each 256)

  -- the marks of its warps
  abbrev pub timing_marks : List ℕ
  timing_marks = assembled_marks (map first (processed_chart format raw).warps) (merged_marks (all_written raw.warps) (made_warps format (processed_together raw)))

  -- the answer line, and behind it the lists where they are taken
  abbrev pub taken_lists : List ℕ
  taken_lists = lists_text (narrow (processed_chart format raw).offset) (warped_rows (assembled_warps (processed_chart format raw)))
      (moved_total (moved_beats format raw)) timing_marks timing_lists

  unfoldable pub taken_text : List ℕ
  taken_text = answer_line taken_number ++ pick (eqb taken_number 0) taken_lists []
