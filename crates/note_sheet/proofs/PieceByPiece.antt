-- A piece of the run, through arrays of 64: what it leaves. Assumes nothing.
use Prim.Native.Nat.{ℕ, min, ◌≤◌}
use mathlib.Core.Path.{◌≡◌, sym, ap, ◌∙◌}
use mathlib.Core.List.{List, map}
use native.Mathlib.Omega.{arith}
use borrow.Author.Tests.{le-leb}
use lib.IntN.{ℤ}
use lib.ListN.{length, take, drop, length-map}
use lib.Seq.{take_at}
use lib.Ieee.{Float, binary64}
use Rattle.rows.specs.Rows.{beat_of}
use Rattle.limits.specs.Refusals.{lower}
use Rattle.order.specs.Order.{laid}
use Rattle.order.proofs.LaidOverFront.{laid-length}
use Rattle.columns.specs.Each.{laid_each}
use Rattle.columns.specs.Laying.{given}
use Rattle.columns.proofs.EachOverFront.{each_over_front}
use Rattle.chart.specs.Timing.{Timing}
use Rattle.clock.specs.declared.Cursor.{Cursor}
use Rattle.clock.specs.History.{answers, last_cursor, time_of, count_of}
use Rattle.clock_run.specs.Run.{run_room_number, checked_run_number, run_columns, CheckedRunLaid}
use Rattle.clock_run.specs.declared.Ran.{Ran}
use Rattle.note_sheet.specs.Sheet.{beats_of_rows, sheet_questions}
use Rattle.note_sheet.specs.inside.Pieces.{PieceFits}
use Rattle.note_sheet.proofs.RunInPieces.{answers-many}

-- what is laid over the front of a list is its front
pub front-laid : {A : Type 0} (new old : List A) (n : ℕ) → n ≡ length new → take n (laid new old) ≡ new
unfolding laid
front-laid new old n e = take_at new (drop (length new) old) n (sym e)

pub front-beats : (rows : List ℤ) (old new : List Float) → new ≡ laid_each (beat_of binary64) rows old → length rows ≤ length old → take (length rows) new ≡ beats_of_rows rows
front-beats rows old new e h =
    ap (take (length rows)) (e ∙ each_over_front (beat_of binary64) rows old h) ∙ front-laid (beats_of_rows rows) old (length rows) (sym (length-map rows (beat_of binary64)))

module _ {t : Timing} {offset global : Float} {c : Cursor} {rows : List ℤ} {room : ℕ} (f : PieceFits t offset global c rows room) where
  pub beats-many : (beats : List Float) → beats ≡ beats_of_rows rows → length rows ≡ length beats
  beats-many beats e = sym (ap length e ∙ length-map rows (beat_of binary64))

  piece_number : (n : ℕ) → n ≡ length rows → checked_run_number t c n 64 room 64 ≡ 0
  unfolding checked_run_number run_room_number lower
  piece_number n e = let few = f.few in let places = f.places in rw (le-leb n (min 64 (min room 64)) (omega arith), f.goes_on_from)

  pub record PieceRan (ran : Ran) (times_old times_new : List Float) (counts_new : List ℕ) : Type 0 where
    pub cursor : ran.cursor ≡ last_cursor t offset global c (sheet_questions rows)
    pub times : times_new ≡ laid (map time_of (answers t offset global c (sheet_questions rows))) times_old
    pub counts : take (length rows) counts_new ≡ map count_of (answers t offset global c (sheet_questions rows))
    pub many : length rows ≤ length counts_new

  pub piece_ran : (beats : List Float) → beats ≡ beats_of_rows rows → (ran : Ran) (numbers_old numbers_new : List ℕ) (times_old times_new : List Float) (counts_old counts_new : List ℕ)
      → length numbers_old ≡ 64 → length times_old ≡ room → length counts_old ≡ 64
      → CheckedRunLaid t offset global c beats ran (run_columns numbers_old times_old counts_old) (run_columns numbers_new times_new counts_new) → PieceRan ran times_old times_new counts_new
  unfolding given
  piece_ran beats e ran numbers_old numbers_new times_old times_new counts_old counts_new n64 r c64 laid_by =
      let a = answers t offset global c (sheet_questions rows) in
      let number : ran.number ≡ 0 = laid_by.number ∙ rw (n64, r, c64) (piece_number (length beats) (sym (beats-many beats e))) in
      let size : length rows ≡ length (map count_of a) = sym (length-map a count_of ∙ answers-many t offset global c rows) in
      let few = f.few in
      let all : counts_new ≡ laid (map count_of a) counts_old = rw (number, e) at laid_by.counts_are in
      record {
        cursor = rw (number, e) at laid_by.cursor;
        times = rw (number, e) at laid_by.times_are;
        counts = ap (take (length rows)) all ∙ front-laid (map count_of a) counts_old (length rows) size;
        many = rw (all, laid-length (map count_of a) counts_old (omega arith)) (omega arith);
      }
