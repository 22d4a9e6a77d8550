-- The beats of a measure's rows, row by row. Assumes nothing.
use Prim.Native.Nat.{ℕ, suc, ◌+◌, ◌-◌, ◌<◌, ◌≤◌}
use mathlib.Core.List.{List, [], ◌∷◌, ◌++◌, map, append_assoc}
use mathlib.Core.Path.{◌≡◌, ap}
use native.Mathlib.Numerals.{add-one}
use native.Mathlib.Omega.{arith}
use lib.ListN.{length, take, set}
use lib.Seq.{take-suc-set}
use lib.Ieee.{Float}
use Rattle.notes_rows.specs.RowBeats.{beat_of_row, rows_from, measure_beats}

-- those from a row on
abbrev pub beats_left : (measure rows row : ℕ) → List Float
beats_left measure rows row = map (beat_of_row measure rows) (rows_from row (rows - row))

module _ (measure rows : ℕ) where
  pub all_left : measure_beats measure rows ≡ beats_left measure rows 0
  unfolding measure_beats
  all_left = ap (λ (n : ℕ). map (beat_of_row measure rows) (rows_from 0 n)) (omega arith)

  pub row_after_row : (row : ℕ) → row < rows → beats_left measure rows row ≡ beat_of_row measure rows row ∷ beats_left measure rows (row + 1)
  unfolding rows_from
  row_after_row row more =
      let one_less : rows - row ≡ suc (rows - (row + 1)) = omega arith in
      rw (one_less, add-one row)

  pub none_left : (row : ℕ) → rows ≤ row → beats_left measure rows row ≡ []
  unfolding rows_from
  none_left row past =
      let none : rows - row ≡ 0 = omega arith in
      rw none

  -- one row more is written over the front
  pub row_written : (items all : List Float) (row : ℕ) → row < rows → row < length items → take row items ++ beats_left measure rows row ≡ all
      → take (row + 1) (set items row (beat_of_row measure rows row)) ++ beats_left measure rows (row + 1) ≡ all
  row_written items all row more there so_far =
      rw (add-one row, take-suc-set items row (beat_of_row measure rows row) there, append_assoc (take row items) (beat_of_row measure rows row ∷ []) (beats_left measure rows (suc row)))
      (rw (row_after_row row more, add-one row) at so_far)
