-- The beat of each row of note data: a measure is four beats, whatever its rows are, and its rows share them evenly. Definitions only.
use Rattle.std.specs.Prelude.{ℕ, zero, suc, ◌≡◌, List, [], ◌∷◌, ◌++◌, map, ltb, pos, length, Float}
use Rattle.std.specs.Float.{binary32}
use Rattle.std.specs.Float.Ieee.{of_bits, of_int, mul, div}
use Rattle.picks.specs.Pick.{pick}
use Rattle.ieee_mul_add.specs.MulAdd.{mul_add}
use Rattle.limits.specs.Table.{too_long_number}
use Rattle.order.specs.Order.{laid}
use Rattle.columns.specs.Laying.{room_number, given}
use Rattle.columns.specs.declared.Outcome.{Outcome}
use Rattle.notes_rows.specs.Measures.{rows_of, measures}

-- ---- a row

-- a whole number as an f32
abbrev pub as_f32 : ℕ → Float
as_f32 n = of_int binary32 (pos n)

-- 4, the beats of a measure
abbrev pub four32 : Float
four32 = of_bits binary32 0x4080_0000

-- the beat that a measure begins at
abbrev pub measure_start : ℕ → Float
measure_start measure = mul binary32 (as_f32 measure) four32

-- the beats from a row to the next
abbrev pub row_step : ℕ → Float
row_step rows = div binary32 four32 (as_f32 rows)

-- row * step + start, rounded once
unfoldable pub beat_of_row : (measure rows row : ℕ) → Float
beat_of_row measure rows row = mul_add binary32 (as_f32 row) (row_step rows) (measure_start measure)

-- ---- all rows

-- so many rows, from a row on
unfoldable pub rows_from : (row left : ℕ) → List ℕ
rows_from row zero = []
rows_from row (suc left) = row ∷ rows_from (suc row) left

unfoldable pub measure_beats : (measure rows : ℕ) → List Float
measure_beats measure rows = map (beat_of_row measure rows) (rows_from 0 rows)

-- measure after measure: one without rows has no beat, and is counted all the same
unfoldable pub beats_from : ℕ → List (List ℕ) → List Float
beats_from measure [] = []
beats_from measure (bytes ∷ rest) = measure_beats measure (rows_of bytes) ++ beats_from (suc measure) rest

unfoldable pub rows_to_beats : List ℕ → List Float
rows_to_beats note_data = beats_from 0 (measures note_data)

-- ---- the call

-- 2 ^ 20: the most bytes of note data that are taken
abbrev pub most_note_bytes : ℕ
most_note_bytes = 1048576

unfoldable pub note_data_number : List ℕ → ℕ
note_data_number note_data = pick (ltb most_note_bytes (length note_data)) too_long_number 0

-- the one outcome: the number, the count, and the room to its last place
pub record RowsToBeats (note_data : List ℕ) (outcome : Outcome) (old new : List Float) : Type 0 where
  pub number : outcome.number ≡ room_number (note_data_number note_data) (length (rows_to_beats note_data)) (length old)
  pub count : outcome.count ≡ length (given outcome.number (rows_to_beats note_data))
  pub beats : new ≡ laid (given outcome.number (rows_to_beats note_data)) old
