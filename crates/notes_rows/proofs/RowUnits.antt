-- A row's beat by whole numbers: in units of the least f32, 2 ^ -149, it is row * step + start, rounded once; a step is 4 / rows rounded, and the last row of a
-- measure is at most four beats behind its start. Assumes nothing.
use Prim.Native.Nat.{ℕ, suc, ◌+◌, ◌*◌, ◌^◌, ◌≤◌, ◌<◌}
use mathlib.Core.Bool.{false}
use mathlib.Core.Path.{◌≡◌, refl, ap, ap₂, ◌∙◌}
use native.Mathlib.Nat.{le_trans, mul-one, one-mul, mul-le-mul_right, mul-le-mul_left}
use native.Mathlib.Omega.{arith}
use lib.IntN.{pos}
use lib.Pow.{pow_pos}
use lib.Dec.{lit≤}
use lib.Ieee.{binary32, round, sum, of_bits}
use lib.Ieee.Back.{round_whole}
use lib.Ieee.Exact.{HasValue}
use lib.Ieee.Scale.{grid, round_val}
use Rattle.ieee.proofs.ByValue.{mul-value, div_value, whole-value}
use Rattle.ieee.proofs.RoundedSize.{Near, grid_fine, grid_near}
use Rattle.ieee_mul_add.proofs.ByFractions.{mul_add_fractions}
use Rattle.notes_rows.specs.RowBeats.{as_f32, four32, measure_start, row_step, beat_of_row, most_note_bytes}

-- ---- the numbers
abbrev pub unit : ℕ
unit = 2 ^ 149

-- a step, and a row, in units
abbrev pub step_units : ℕ → ℕ
step_units rows = grid binary32 4 rows

abbrev pub beat_units : (measure rows row : ℕ) → ℕ
beat_units measure rows row = row * step_units rows + measure * 4 * unit

count-value : (n : ℕ) → n ≤ 2 ^ 24 → HasValue (as_f32 n) false n 1
count-value n h = whole-value binary32 (pos n) h

four-value : HasValue four32 false 4 1
unfolding of_bits
four-value = (refl, refl)

start-value : (measure : ℕ) → measure ≤ most_note_bytes → HasValue (measure_start measure) false (measure * 4) 1
start-value measure h =
    let rounds = mul-value binary32 (as_f32 measure) four32 false false measure 1 4 1 (omega arith) (omega arith) (count-value measure (omega arith)) four-value in
    rw rounds (round_whole binary32 false (measure * 4) (omega arith))

step_value : (rows : ℕ) → 0 < rows → rows ≤ most_note_bytes → HasValue (row_step rows) false (step_units rows) unit
step_value rows some h =
    let rounds = div_value binary32 four32 (as_f32 rows) false false 4 1 rows 1 (omega arith) (omega arith) some four-value (count-value rows (omega arith)) in
    rw (rounds, mul-one rows) (round_val binary32 4 rows (grid_fine binary32 4 rows 4 some (omega arith) (omega arith)))

-- ---- a row
pub beat-rounds : (measure rows row : ℕ) → measure ≤ most_note_bytes → row < rows → rows ≤ most_note_bytes → beat_of_row measure rows row ≡ round binary32 false (beat_units measure rows row) unit
unfolding beat_of_row sum
beat-rounds measure rows row m r n =
    mul_add_fractions binary32 (as_f32 row) (row_step rows) (measure_start measure) false false false row (step_units rows) (measure * 4) 1 unit 1
    (omega arith) (pow_pos 149) (omega arith) (count-value row (omega arith)) (step_value rows (omega arith) n) (start-value measure m)
    ∙ ap₂ (round binary32 false) (ap₂ ◌+◌ (mul-one (row * step_units rows)) (ap (λ (u : ℕ). measure * 4 * u) (one-mul unit))) (mul-one (1 * unit) ∙ one-mul unit)

-- ---- four beats hold every row of a measure: row * step is at most 4, though rows * step may be above
module _ (u step rows row : ℕ) (near : Near 16777216 (step * rows) (4 * u)) (inside : row < rows) (few : rows ≤ most_note_bytes) where
  four-beats : row * step ≤ 4 * u
  four-beats = omega (arith, near.0, near.1, mul-le-mul_right step inside, mul-le-mul_left step few)

within-four : (rows row : ℕ) → row < rows → rows ≤ most_note_bytes → row * step_units rows ≤ 4 * unit
within-four rows row inside few =
    let normal : 8388608 * rows ≤ 4 * unit = le_trans (mul-le-mul_left 8388608 few) (lit≤ tt) in
    four-beats unit (step_units rows) rows row (grid_near binary32 4 rows (omega arith) normal 8388608 (lit≤ tt)) inside few

-- ---- from its measure's start on, behind the row before, and up to the next measure's start
pub from_its_start : (measure rows row : ℕ) → measure * 4 * unit ≤ beat_units measure rows row
from_its_start measure rows row = go unit (step_units rows)
  where
    go : (u step : ℕ) → measure * 4 * u ≤ row * step + measure * 4 * u
    go u step = omega arith

pub behind_the_row_before : (measure rows row : ℕ) → beat_units measure rows row ≤ beat_units measure rows (suc row)
behind_the_row_before measure rows row = go (measure * 4 * unit) (step_units rows)
  where
    go : (start step : ℕ) → row * step + start ≤ suc row * step + start
    go start step = omega arith

pub up_to_the_next_start : (measure rows row : ℕ) → row < rows → rows ≤ most_note_bytes → beat_units measure rows row ≤ suc measure * 4 * unit
up_to_the_next_start measure rows row inside few = go unit (step_units rows) (within-four rows row inside few)
  where
    go : (u step : ℕ) → row * step ≤ 4 * u → row * step + measure * 4 * u ≤ suc measure * 4 * u
    go u step h = omega arith
