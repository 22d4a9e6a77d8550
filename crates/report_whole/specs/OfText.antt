-- The report of a format and of entries, as a reader of an input's lines expects it. Definitions only.
use Rattle.std.specs.Prelude.{ℕ, ◌≡◌, Bool, List, map, Float}
use Rattle.std.specs.Float.Ieee.{of_bits}
use Rattle.std.specs.Float.{binary64}
use Rattle.limits.specs.Table.{too_long_number, bad_text}
use Rattle.chart.specs.ChartColumns.{ListColumns, list_columns, speed_columns, ChartColumns}
use Rattle.picks.specs.Pick.{pick}
use Rattle.report_form.specs.Text.{Entry}
use Rattle.report_form.specs.Orderly.{TextOf, numbers_of, too_many}
use Rattle.report_text.specs.Output.{answer_line}
use Rattle.report_whole.specs.Taken.{taken_text}
use Rattle.report_whole.specs.Whole.{format_read, report_of}

-- what the entries of a list (2 bpm .. 8 fake) have in a part (1 is the beat), each number the f64 of its pattern
abbrev pub floats_of : ℕ → ℕ → List Entry → List Float
floats_of list part entries = map (of_bits binary64) (numbers_of list part entries)

abbrev pub entries_list : ℕ → List Entry → ListColumns
entries_list list entries = list_columns (floats_of list 1 entries) (floats_of list 2 entries)

abbrev pub entries_chart : List Entry → ChartColumns
entries_chart entries = record {
  tempos = entries_list 2 entries;
  stops = entries_list 3 entries;
  delays = entries_list 4 entries;
  warps = entries_list 5 entries;
  speeds = speed_columns (floats_of 6 1 entries) (floats_of 6 2 entries) (floats_of 6 3 entries) (numbers_of 6 4 entries);
  scrolls = entries_list 7 entries;
  fakes = entries_list 8 entries;
}

-- refused with 1 where a list has more than 256 entries, else the answer to the entries' lists
unfoldable pub entries_report : Bool → List Entry → List ℕ
entries_report ssc entries =
    pick (too_many entries) (answer_line too_long_number)
    (taken_text (format_read ssc) (entries_chart entries))

-- THE REPORT OF ANY BYTES: of the text of entries in order, the report of those entries; of anything else, the refusal with 10
pub data Told (bytes : List ℕ) : Type 0 where
  of_text : (t : TextOf bytes) → report_of bytes ≡ entries_report t.ssc t.entries → Told bytes
  of_no_text : (TextOf bytes → ⊥) → report_of bytes ≡ answer_line bad_text → Told bytes
