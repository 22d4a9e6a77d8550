-- An allowed beat has a row of at most 3,145,728 in size, at either width. Assumes nothing.
use Rattle.std.proofs.Common.{◌<◌, ◌≤◌, T, ℤ, pos, negsuc, nat_abs, ap, ◌∙◌, le_trans, le_of_eq, arith}
use lib.Signed.{mag}
use lib.Ieee.{Float, Format}
use Rattle.ieee.proofs.SignedSizes.{nat_abs_signed}
use Rattle.limits.specs.Numbers.{most_row}
use Rattle.rows.specs.Rows.{row, allowed_beat}
use Rattle.rows.proofs.RowValue.{row_size, row-value, row_size_within}
use Rattle.rows.proofs.Allowed.{allowed-sized}

pub row_within : (f : Format) (beat : Float) → T (allowed_beat beat) → nat_abs (row f beat) ≤ most_row
row_within f beat h =
    let z = allowed-sized beat h in
    le_trans (le_of_eq (ap nat_abs (row-value f beat z) ∙ nat_abs_signed z.negative (row_size f z.num z.den))) (row_size_within f z.num z.den z.den_pos z.small)

-- and such a row is an i32
pub in_i32 : (r : ℤ) → nat_abs r ≤ most_row → mag r < 2147483648
in_i32 (pos n) h = omega arith
in_i32 (negsuc n) h = omega arith
