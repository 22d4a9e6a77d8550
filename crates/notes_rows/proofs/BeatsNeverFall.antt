-- The beats of note data's rows never fall, from the first to the last, of all data that is taken. Assumes nothing.
use Prim.Native.Nat.{ℕ, zero, suc, ◌+◌, ◌*◌, ◌≤◌, ◌<◌}
use mathlib.Core.Bool.{true, false}
use mathlib.Core.List.{List, [], ◌∷◌, ◌++◌, map}
use mathlib.Core.Path.{◌≡◌, refl}
use native.Mathlib.Nat.{le_trans, mul-le-mul_right}
use native.Mathlib.Omega.{arith}
use lib.Dec.{T}
use lib.ListN.{length}
use lib.Pow.{pow_pos}
use lib.Ieee.{Float, binary32, round, le}
use lib.Ieee.Bits.{is_true}
use lib.Ieee.Order.{round_mono}
use Rattle.limits.specs.Numbers.{every}
use Rattle.limits.specs.Neighbours.{neighbours, every_two}
use Rattle.notes_rows.specs.Measures.{measures, rows_of, all_rows}
use Rattle.notes_rows.specs.RowBeats.{beat_of_row, rows_from, measure_beats, beats_from, rows_to_beats, most_note_bytes}
use Rattle.notes_rows.proofs.FewRows.{all_rows_few, measures-few}
use Rattle.notes_rows.proofs.RowUnits.{unit, beat_units, beat-rounds, from_its_start, behind_the_row_before, up_to_the_next_start}

-- ---- a list of whole numbers of units that are rounded: each is at least the one before it, and the first at least `low`
abbrev Climbs : ℕ → List Float → Type 0
Climbs low [] = Unit {0}
Climbs low (x ∷ list) = (u : ℕ) × (low ≤ u) × (x ≡ round binary32 false u unit) × Climbs u list

from-lower : {low lower : ℕ} (list : List Float) → lower ≤ low → Climbs low list → Climbs lower list
from-lower [] h climbs = climbs
from-lower (x ∷ list) h climbs = (climbs.0, le_trans h climbs.1, climbs.2, climbs.3)

never-falls : (low : ℕ) (list : List Float) → Climbs low list → every_two le list ≡ true
unfolding neighbours every
never-falls low [] climbs = refl
never-falls low (x ∷ []) climbs = refl
never-falls low (x ∷ y ∷ list) climbs =
    let u = climbs.0 in
    let v = climbs.3.0 in
    let rises : T (le x y) = rw (climbs.2, climbs.3.2) (round_mono binary32 u unit v unit (pow_pos 149) (pow_pos 149) (mul-le-mul_right unit climbs.3.1)) in
    rw (is_true (le x y) rises) (never-falls u (y ∷ list) climbs.3)

-- ---- a measure, and what stands behind it from the next measure's start on
module _ (measure rows : ℕ) (early : measure ≤ most_note_bytes) (few : rows ≤ most_note_bytes) (rest : List Float) (behind : Climbs (suc measure * 4 * unit) rest) where
  rows_climb : (low row left : ℕ) → low ≤ suc measure * 4 * unit → low ≤ beat_units measure rows row → row + left ≡ rows → Climbs low (map (beat_of_row measure rows) (rows_from row left) ++ rest)
  unfolding rows_from
  rows_climb low row zero within below all = from-lower rest within behind
  rows_climb low row (suc left) within below all =
      let inside : row < rows = omega arith in (
        beat_units measure rows row,
        below,
        beat-rounds measure rows row early inside few,
        rows_climb (beat_units measure rows row) (suc row) left
            (up_to_the_next_start measure rows row inside few)
            (behind_the_row_before measure rows row)
            (omega arith),
      )

  next_start : (u : ℕ) → measure * 4 * u ≤ suc measure * 4 * u
  next_start u = omega arith

  measure_climbs : Climbs (measure * 4 * unit) (measure_beats measure rows ++ rest)
  unfolding measure_beats
  measure_climbs = rows_climb (measure * 4 * unit) 0 rows (next_start unit) (from_its_start measure rows 0) (omega arith)

-- ---- all measures
measures_climb : (measure : ℕ) (list : List (List ℕ)) → measure + length list ≤ most_note_bytes + 1 → all_rows list ≤ most_note_bytes → Climbs (measure * 4 * unit) (beats_from measure list)
unfolding beats_from all_rows
measures_climb measure [] early few = tt
measures_climb measure (bytes ∷ rest) early few =
    measure_climbs measure (rows_of bytes) (omega arith) (omega arith) (beats_from (suc measure) rest) (measures_climb (suc measure) rest (omega arith) (omega arith))

pub beats_never_fall : (note_data : List ℕ) → length note_data ≤ most_note_bytes → every_two le (rows_to_beats note_data) ≡ true
unfolding rows_to_beats
beats_never_fall note_data few =
    never-falls (0 * 4 * unit) (rows_to_beats note_data)
    (measures_climb 0 (measures note_data) (omega (arith, measures-few note_data)) (omega (arith, all_rows_few note_data)))
