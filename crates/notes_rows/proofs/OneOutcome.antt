-- What is said of `compute_row_to_beat` leaves one outcome: number, count, and the room to its last place. Assumes nothing.
use Prim.Native.Nat.{ℕ}
use mathlib.Core.Path.{◌≡◌}
use mathlib.Core.List.{List}
use lib.Ieee.{Float}
use Rattle.columns.specs.declared.Outcome.{Outcome}
use Rattle.notes_rows.specs.RowBeats.{RowsToBeats}

pub one_outcome : {note_data : List ℕ} {a b : Outcome} {old new_a new_b : List Float} → RowsToBeats note_data a old new_a → RowsToBeats note_data b old new_b → (a ≡ b) × (new_a ≡ new_b)
one_outcome {a = a} {b = b} x y =
    let same : ◌≡◌ {A = Outcome} (record { number = a.number; count = a.count }) (record { number = b.number; count = b.count }) = cc in
    (same, cc)
