-- The first row of a measure stands on its start, four beats for each measure before it, and no row stands before the start or behind the next one's. Assumes nothing.
use Prim.Native.Nat.{ℕ, suc, ◌+◌, ◌*◌, ◌≤◌, ◌<◌}
use mathlib.Core.Bool.{false}
use mathlib.Core.Path.{◌≡◌}
use native.Mathlib.Nat.{mul-one}
use native.Mathlib.Omega.{arith}
use lib.Dec.{T}
use lib.Pow.{pow_pos}
use lib.Ieee.{binary32, of_int, le}
use lib.Ieee.Back.{round_whole}
use lib.Ieee.Exact.{HasValue}
use lib.Ieee.Order.{round_mono}
use lib.Ieee.Scale.{round_same}
use Rattle.notes_rows.specs.RowBeats.{as_f32, beat_of_row, most_note_bytes}
use Rattle.notes_rows.proofs.RowUnits.{unit, step_units, beat_units, beat-rounds, from_its_start, up_to_the_next_start}

module _ (measure rows : ℕ) (early : measure ≤ most_note_bytes) (few : rows ≤ most_note_bytes) where
  pub first_row_on_the_start : 0 < rows → HasValue (beat_of_row measure rows 0) false (measure * 4) 1
  first_row_on_the_start some =
      rw (beat-rounds measure rows 0 early some few, round_same binary32 false (beat_units measure rows 0) unit (measure * 4) 1 (pow_pos 149) (omega arith) (alone unit (step_units rows)))
      (round_whole binary32 false (measure * 4) (omega arith))
    where
      alone : (u step : ℕ) → (0 * step + measure * 4 * u) * 1 ≡ measure * 4 * u
      alone u step = omega arith

  module _ (row : ℕ) (inside : row < rows) where
    pub not_before_its_measure : T (le (as_f32 (measure * 4)) (beat_of_row measure rows row))
    unfolding of_int
    not_before_its_measure =
        rw (beat-rounds measure rows row early inside few)
        (round_mono binary32 (measure * 4) 1 (beat_units measure rows row) unit (omega arith) (pow_pos 149) (rw (mul-one (beat_units measure rows row)) (from_its_start measure rows row)))

    pub not_behind_its_measure : T (le (beat_of_row measure rows row) (as_f32 (suc measure * 4)))
    unfolding of_int
    not_behind_its_measure =
        rw (beat-rounds measure rows row early inside few)
        (round_mono binary32 (beat_units measure rows row) unit (suc measure * 4) 1 (pow_pos 149) (omega arith) (rw (mul-one (beat_units measure rows row)) (up_to_the_next_start measure rows row inside few)))
