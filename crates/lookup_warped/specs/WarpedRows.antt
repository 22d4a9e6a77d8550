-- How many rows warps pass over, each row once: the rows of a span that some warp covers. To be read, and never computed: the span has some six billion rows.
-- Definitions only.
use Rattle.std.specs.Prelude.{◌≡◌, ℕ, zero, suc, ◌+◌, ◌-◌, ◌*◌, ◌^◌, ◌<◌, Bool, true, false, List, [], ◌∷◌, ℤ, pos, negsuc, ◌+ℤ◌, int_le, int_lt, Float}
use Rattle.std.specs.Float.{binary64}
use Rattle.std.specs.Float.Ieee.{lt}
use Rattle.ieee.specs.Constants.{plus_zero}
use Rattle.picks.specs.Pick.{pick}
use Rattle.rows.specs.Rows.{row}

-- ---- a warp, a beat and a length

-- how many rows its length has: the f64 row of the length if it is above 0. A row is held at the ends of i32, and an endless warp with it
abbrev pub size : ℤ → ℕ
size (pos n) = n
size (negsuc n) = 0

unfoldable pub length_rows : Float → ℕ
length_rows length = pick (lt plus_zero length) (size (row binary64 length)) 0

abbrev pub start_row : Float × Float → ℤ
start_row warp = row binary64 warp.0

-- start row <= r < start row + length in rows; the end itself is not held
unfoldable pub covers : Float × Float → ℤ → Bool
covers warp r = pick (int_le (start_row warp) r) (int_lt r (start_row warp +ℤ pos (length_rows warp.1))) false

unfoldable pub covered : List (Float × Float) → ℤ → Bool
covered [] r = false
covered (warp ∷ warps) r = pick (covers warp r) true (covered warps r)

-- ---- the count

-- of the n rows from r on, how many pass a test
unfoldable pub count_rows : (ℤ → Bool) → ℤ → ℕ → ℕ
count_rows test r zero = 0
count_rows test r (suc n) = pick (test r) 1 0 + count_rows test (r +ℤ pos 1) n

-- all rows that a warp can cover (`covered_in_span`): a start is an i32, and a length adds less than 2 ^ 31
abbrev pub lowest_row : ℤ
lowest_row = negsuc (2 ^ 31 - 1)

abbrev pub span : ℕ
span = 3 * 2 ^ 31

pub record InSpan (r : ℤ) : Type 0 where
  pub place : ℕ
  pub below : place < span
  pub is : r ≡ lowest_row +ℤ pos place

-- THE NUMBER: the different rows that some warp covers
unfoldable pub warped_rows : List (Float × Float) → ℕ
warped_rows warps = count_rows (covered warps) lowest_row span
