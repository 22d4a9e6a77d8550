-- The outcomes of `compute_row_to_beat`: too many bytes, too little room, and every beat written. Assumes nothing.
use Prim.Native.Nat.{ℕ, ◌≤◌, ◌<◌}
use mathlib.Core.List.{List}
use mathlib.Core.Path.{◌≡◌, sym, ◌∙◌}
use native.Mathlib.Omega.{arith}
use lib.ListN.{length}
use lib.Ieee.{Float}
use borrow.Author.Tests.{lt-ltb, le-ltb}
use Rattle.limits.specs.Table.{too_long_number, no_room}
use Rattle.order.specs.Order.{laid}
use Rattle.columns.specs.Laying.{room_number, refused_by, given}
use Rattle.columns.proofs.Rooms.{nothing-given, number_of_tests, number_no_room, number-taken}
use Rattle.notes_rows.specs.Measures.{measures, all_rows}
use Rattle.notes_rows.specs.RowBeats.{rows_to_beats, most_note_bytes, note_data_number, RowsToBeats}
use Rattle.notes_rows.proofs.MeasureWritesRows.{data_writes_rows}

taken_by_length : (note_data : List ℕ) → length note_data ≤ most_note_bytes → note_data_number note_data ≡ 0
unfolding note_data_number
taken_by_length note_data short = rw (le-ltb most_note_bytes (length note_data) short)

module _ {note_data : List ℕ} {old : List Float} where
  left_alone : {n : ℕ} → (n ≡ 0 → ⊥) → n ≡ room_number (note_data_number note_data) (length (rows_to_beats note_data)) (length old) → RowsToBeats note_data (refused_by n) old old
  unfolding laid
  left_alone {n} h e = record { number = e; count = rw (nothing-given (rows_to_beats note_data) n h); beats = rw (nothing-given (rows_to_beats note_data) n h) }

  pub too_long : most_note_bytes < length note_data → RowsToBeats note_data (refused_by too_long_number) old old
  unfolding note_data_number
  too_long h =
      left_alone (λ e. omega arith)
      (rw (lt-ltb most_note_bytes (length note_data) h) (number_of_tests too_long_number (length (rows_to_beats note_data)) (length old) (λ e. omega arith)))

  module _ (short : length note_data ≤ most_note_bytes) {count : ℕ} (counted : count ≡ all_rows (measures note_data)) where
    pub too_little_room : length old < count → RowsToBeats note_data (refused_by no_room) old old
    too_little_room h =
        left_alone (λ e. omega arith)
        (number_no_room (note_data_number note_data) (length (rows_to_beats note_data)) (length old) (taken_by_length note_data short) (omega (arith, data_writes_rows note_data)))

    pub all_laid : {new : List Float} → count ≤ length old → new ≡ laid (rows_to_beats note_data) old → RowsToBeats note_data (record { number = 0; count = count }) old new
    unfolding given
    all_laid h is =
        record {
          number = number-taken (note_data_number note_data) (length (rows_to_beats note_data)) (length old) (taken_by_length note_data short) (omega (arith, data_writes_rows note_data));
          count = counted ∙ sym (data_writes_rows note_data);
          beats = is;
        }
