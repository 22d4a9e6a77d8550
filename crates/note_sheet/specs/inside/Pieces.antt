-- A long run made in pieces: what a piece asks, and what it leaves. Definitions only.
use Rattle.std.specs.Prelude.{ℕ, ◌≤◌, ◌<◌, ◌^◌, List, map, true, ◌≡◌, ℤ, length, Float}
use Rattle.std.specs.Int.Signed.{lt_z}
use Rattle.limits.specs.Numbers.{every, row_in}
use Rattle.limits.specs.Neighbours.{every_two}
use Rattle.order.specs.Order.{laid}
use Rattle.order.specs.Entries.{total}
use Rattle.chart.specs.Timing.{Timing}
use Rattle.clock_tests.specs.TimingNumbers.{timing_number}
use Rattle.clock.specs.Question.{cursor_refusal}
use Rattle.clock.specs.History.{answers, last_cursor, time_of, count_of}
use Rattle.clock.specs.declared.Cursor.{Cursor}
use Rattle.note_sheet.specs.Sheet.{sheet_questions}
use Rattle.note_sheet.specs.declared.Piece.{Piece}

-- at most 64 rows, with room for their times, a cursor that is not refused, and counts that fit together
pub record PieceFits (t : Timing) (offset global : Float) (c : Cursor) (rows : List ℤ) (room : ℕ) : Type 0 where
  pub few : length rows ≤ 64
  pub places : length rows ≤ room
  pub goes_on_from : cursor_refusal t c ≡ 0
  pub fits : total (map count_of (answers t offset global c (sheet_questions rows))) < 2 ^ 64

-- the cursor after the last row, the counts added up, and the times over the front of the room
pub record PieceTimed (t : Timing) (offset global : Float) (c : Cursor) (rows : List ℤ) (piece : Piece) (old new : List Float) : Type 0 where
  pub cursor : piece.cursor ≡ last_cursor t offset global c (sheet_questions rows)
  pub steps : piece.steps ≡ total (map count_of (answers t offset global c (sheet_questions rows)))
  pub times : new ≡ laid (map time_of (answers t offset global c (sheet_questions rows))) old

-- what all rows together ask: a timing that is taken, rows within the limit that rise, and room
pub record AllFit (t : Timing) (offset global : Float) (rows : List ℤ) (room : ℕ) : Type 0 where
  pub taken : timing_number t offset global ≡ 0
  pub near : every row_in rows ≡ true
  pub up : every_two lt_z rows ≡ true
  pub places : length rows ≤ room
