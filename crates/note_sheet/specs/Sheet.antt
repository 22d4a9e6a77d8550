-- A note sheet: for each of a rising list of rows its time, whether it is judgable, and its snap colour. Definitions only.
--
-- The times are those of one run over the beats of the rows, which a fresh cursor begins; `steps` is the sum of the run's counts.
use Rattle.std.specs.Prelude.{ℕ, min, List, map, ◌≡◌, leb, ℤ, length, Float}
use Rattle.std.specs.Int.Signed.{lt_z}
use Rattle.std.specs.Float.{binary64}
use Rattle.picks.specs.Pick.{pick}
use Rattle.rows.specs.Rows.{beat_of}
use Rattle.order.specs.Entries.{total}
use Rattle.limits.specs.Numbers.{every, row_in}
use Rattle.limits.specs.Neighbours.{every_two}
use Rattle.limits.specs.Refusals.{lower}
use Rattle.limits.specs.Table.{not_rising, no_room}
use Rattle.columns.specs.Laying.{given, column_laid}
use Rattle.chart.specs.Timing.{Timing}
use Rattle.chart.specs.ChartColumns.{ListColumns}
use Rattle.clock_tests.specs.TimingNumbers.{timing_number}
use Rattle.lookup_tests.specs.LookupLists.{LookupLists, lookup_lists}
use Rattle.lookup_tests.specs.Refused.{judgable_number}
use Rattle.lookup.specs.Lookups.{is_judgable, byte}
use Rattle.clock.specs.Question.{fresh_cursor}
use Rattle.clock.specs.History.{History, answers, time_of, count_of}
use Rattle.clock.specs.declared.Answer.{Answer}
use Rattle.clock_run.specs.Run.{run_of}
use Rattle.note_sheet.specs.Snap.{snap_of, snap_number}
use Rattle.note_sheet.specs.declared.Sheet.{Sheet}

-- ---- what a sheet is made of, and where it is written

-- a timing with its offsets, and its fakes
pub record Song : Type 0 where
  pub timing : Timing
  pub offset : Float
  pub global : Float
  pub fakes : ListColumns

abbrev pub song : Timing → Float → Float → ListColumns → Song
song timing offset global fakes = record { timing = timing; offset = offset; global = global; fakes = fakes }

pub record SheetColumns : Type 0 where
  pub times : List Float
  pub judged : List ℕ
  pub snaps : List ℕ

abbrev pub sheet_columns : List Float → List ℕ → List ℕ → SheetColumns
sheet_columns times judged snaps = record { times = times; judged = judged; snaps = snaps }

-- the shortest of the three
abbrev pub sheet_room : SheetColumns → ℕ
sheet_room c = min (length c.times) (min (length c.judged) (length c.snaps))

-- ---- what is written of each row

abbrev pub beats_of_rows : List ℤ → List Float
beats_of_rows rows = map (beat_of binary64) rows

-- the beats of the rows, asked one by one
abbrev pub sheet_questions : List ℤ → History
sheet_questions rows = run_of (beats_of_rows rows)

-- by one cursor, which is fresh at the first
abbrev pub sheet_answers : Song → List ℤ → List Answer
sheet_answers s rows = answers s.timing s.offset s.global (fresh_cursor s.offset s.global) (sheet_questions rows)

-- the lists that the lookup takes
abbrev pub notes_of : Song → LookupLists
notes_of s =
    let t = s.timing in
    lookup_lists t.stop_beats t.stop_values t.delay_beats t.delay_values t.warp_beats t.warp_lengths s.fakes.beats s.fakes.values

-- 1 where the row is judgable
abbrev pub judged_of : Song → ℤ → ℕ
judged_of s row = byte (is_judgable (notes_of s) row)

abbrev pub colour_of : ℤ → ℕ
colour_of row = snap_number (snap_of row)

-- ---- the number

-- 5 where a row is not above the one before it, 7 where there are more than the room has places
unfoldable pub rows_order_number : List ℤ → ℕ
rows_order_number rows = pick (every_two lt_z rows) 0 not_rising

unfoldable pub sheet_room_number : ℕ → ℕ → ℕ
sheet_room_number rows room = pick (leb rows room) 0 no_room

-- the lowest, of these, the timing's and the lookup's, which has 3 for a row beyond the limit
unfoldable pub sheet_number : Song → List ℤ → ℕ → ℕ
sheet_number s rows room =
    lower (lower (timing_number s.timing s.offset s.global) (lower (rows_order_number rows) (sheet_room_number (length rows) room)))
    (judgable_number (notes_of s) (every row_in rows))

-- nothing written, no steps
abbrev pub refused_sheet : ℕ → Sheet
refused_sheet number = record { number = number; count = 0; steps = 0 }

-- ---- the one outcome: the number, the rows written, the steps, and the three columns to their last place

pub record SheetLaid (s : Song) (rows : List ℤ) (sheet : Sheet) (old new : SheetColumns) : Type 0 where
  pub number : sheet.number ≡ sheet_number s rows (sheet_room old)
  pub count : sheet.count ≡ length (given sheet.number rows)
  pub steps : sheet.steps ≡ total (map count_of (given sheet.number (sheet_answers s rows)))
  pub times_are : new.times ≡ column_laid time_of sheet.number (sheet_answers s rows) old.times
  pub judged_are : new.judged ≡ column_laid (judged_of s) sheet.number rows old.judged
  pub snaps_are : new.snaps ≡ column_laid colour_of sheet.number rows old.snaps
