-- A length that is moved to rows is at most 44,739,244 in size, whatever it was: rows are held at the ends of an i32. Assumes nothing.
use mathlib.Core.Bool.{true, false}
use mathlib.Core.Path.{◌≡◌, sym, subst}
use Prim.Native.Nat.{ℕ, suc, ◌-◌, ◌*◌, ◌^◌, ◌≤◌}
use native.Mathlib.Nat.{min-le_right, zero-lt-suc, le_trans, mul-pos}
use native.Mathlib.Omega.{arith}
use lib.IntN.{ℤ, pos, negsuc, nat_abs}
use lib.Dec.{lit≤, lit<}
use lib.Ieee.{Float, binary32, unlike, mul, of_int}
use Rattle.ieee.specs.Rounding.{rint, hold}
use Rattle.ieee.proofs.ByValue.{div_value}
use Rattle.ieee.proofs.Magnitude.{AtMost, sized-within}
use Rattle.ieee.proofs.SizesAddUp.{power_of_format, digits_of_format, round_at_most, at_most_wider}
use Rattle.limits.specs.declared.Kind.TheVariants.{Value}
use Rattle.limits.specs.Numbers.{in_range, range_of}
use Rattle.limits.proofs.TakenWithin.{within-taken}
use Rattle.rows.specs.Rows.{row, quantized32}
use Rattle.rows.proofs.RowValue.{like_48}

-- 44,739,244 beats, the f32 nearest to 2 ^ 31 rows
abbrev pub longest : ℕ
longest = 11184811 * 2 ^ 2

held-size : (z : ℤ) → nat_abs (hold z) ≤ 2 ^ 31
unfolding hold
held-size (pos n) = le_trans (min-le_right n (2 ^ 31 - 1)) (lit≤ tt)
held-size (negsuc n) = let l = min-le_right n (2 ^ 31 - 1) in omega arith

whole_at_most : (z : ℤ) → nat_abs z ≤ 2 ^ 31 → AtMost (2 ^ 31) (of_int binary32 z)
unfolding of_int
whole_at_most (pos n) h = round_at_most binary32 (power_of_format binary32 31 (lit≤ tt)) false n 1 (zero-lt-suc 0) (omega arith)
whole_at_most (negsuc n) h = round_at_most binary32 (power_of_format binary32 31 (lit≤ tt)) true (suc n) 1 (zero-lt-suc 0) (omega arith)

pub quantized_at_most : (x : Float) → AtMost longest (quantized32 x)
quantized_at_most x =
    let rows = whole_at_most (row binary32 x) (held-size (rint (mul binary32 x (of_int binary32 (pos 48))))) in
    let a = rows.num in
    let c = rows.den in
    let small = rows.small in
    subst (AtMost longest) (sym (div_value binary32 (of_int binary32 (row binary32 x)) (of_int binary32 (pos 48)) rows.negative false a c 48 1 rows.den_pos (zero-lt-suc 0) (zero-lt-suc 47) rows.value (like_48 binary32)))
    (round_at_most binary32 (digits_of_format binary32 11184811 2 (lit< tt) (lit≤ tt)) (unlike rows.negative false) (a * 1) (48 * c) (mul-pos (zero-lt-suc 47) rows.den_pos) (omega arith))

-- so it is a value that is taken
pub quantized-taken : (x : Float) → in_range (range_of Value) (quantized32 x) ≡ true
quantized-taken x = within-taken 30 (quantized32 x) (sized-within 30 (quantized32 x) (at_most_wider (lit≤ tt) (quantized_at_most x)))
