-- How far a warp reaches: its start is a row of an i32, its length has less than 2 ^ 31 rows, and so its end's key is within the span. And a row, from its key.
-- Assumes nothing.
use Rattle.std.proofs.Common.{◌≡◌, ◌-◌, ◌<◌, ◌≤◌, Bool, true, false, ℤ, pos, negsuc, arith}
use lib.Signed.{mag}
use lib.Ieee.{Float, binary64, lt}
use Rattle.ieee.specs.Constants.{plus_zero}
use Rattle.picks.specs.Pick.{pick}
use Rattle.rows.specs.Rows.{row}
use Rattle.rows.specs.RowKey.{row_key, row_key_of}
use Rattle.rows.proofs.RowKeys.{row_key_lt}
use Rattle.rows.proofs.PackedOrder.{row_fits}
use Rattle.lookup_warped.specs.WarpedRows.{size, length_rows, span}
use Rattle.lookup_warped.specs.OnePass.{end_key}

size_below : (z : ℤ) → mag z < 2147483648 → size z < 2147483648
size_below (pos n) h = h
size_below (negsuc n) h = omega arith

pub length-below : (length : Float) → length_rows length < 2147483648
unfolding length_rows
length-below length = by (lt plus_zero length)
  where
    by : (b : Bool) → pick b (size (row binary64 length)) 0 < 2147483648
    by true = size_below (row binary64 length) (row_fits binary64 length)
    by false = omega arith

pub start-below : (warp : Float × Float) → row_key_of warp < 4294967296
start-below warp = row_key_lt (row binary64 warp.0) (row_fits binary64 warp.0)

pub end-within : (warp : Float × Float) → end_key warp ≤ span
end-within warp = omega (arith, start-below warp, length-below warp.1)

-- a row from its key, 0 for one below 0
pub size-key : (z : ℤ) → row_key z - 2147483648 ≡ size z
unfolding row_key
size-key (pos n) = omega arith
size-key (negsuc n) = omega arith
