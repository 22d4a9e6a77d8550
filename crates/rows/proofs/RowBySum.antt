-- The row of an allowed beat by its mark: 48 times the beat is within an i32, so the sum rounds it, and the pattern of the sum counts on from that of row 0. Assumes nothing.
use Rattle.std.proofs.Common.{◌≡◌, ℕ, ◌*◌, ◌^◌, ◌≤◌, Bool, true, false, not, T, ℤ, pos, ◌-ℤ◌, sym, refl, ap, ◌∙◌, subst, zero-lt-suc, mul-one, arith, lit≤, pow_pos, w32, w64, SFits, to_z, of_z}
use lib.Ieee.{Float, binary64, low, round, mul, of_int, is_nan, to_bits}
use lib.Ieee.Exact.{HasValue}
use lib.Ieee.Scale.{grid}
use Rattle.ieee.specs.Rounding.{rint}
use Rattle.ieee.specs.inside.FloatEnds.{least_float, most_float, InI32}
use Rattle.ieee.proofs.SignedSizes.{Ordered}
use Rattle.ieee.proofs.FloatOrder.{sizes_le}
use Rattle.ieee.proofs.Held.{held-within}
use Rattle.ieee.proofs.Units.{round-units}
use Rattle.ieee.proofs.RoundedSize.{grid_le}
use Rattle.ieee.proofs.ByValue.{mul-value}
use Rattle.ieee.proofs.RintBySum.{bias_pattern, within-small, sum_number, pattern-in64, difference-in64, difference_in32, difference32}
use Rattle.limits.specs.Numbers.{most_row}
use Rattle.rows.specs.Rows.{row, allowed_beat}
use Rattle.rows.specs.Marks.{row_mark}
use Rattle.rows.proofs.RowValue.{unlike-positive, like_48, product-fine}
use Rattle.rows.proofs.Allowed.{allowed-sized}

-- 48 times a beat
abbrev pub product : Float → Float
product beat = mul binary64 beat (of_int binary64 (pos 48))

from-least : (s : Bool) (a b : ℕ) → a ≤ b → Ordered true b s a
from-least false a b h = tt
from-least true a b h = h

to-most : (s : Bool) (a b : ℕ) → a ≤ b → Ordered s a false b
to-most false a b h = h
to-most true a b h = tt

in_least : (size unit : ℕ) → size ≤ most_row * unit → size * 1 ≤ 2147483648 * unit
in_least size unit h = omega arith

in_most : (size unit : ℕ) → size ≤ most_row * unit → size * 1 ≤ 2147483647 * unit
in_most size unit h = omega arith

pub product-within : (beat : Float) → T (allowed_beat beat) → InI32 (product beat)
product-within beat h =
    let z = allowed-sized beat h in
    let s = z.negative in
    let a = z.num in
    let c = z.den in
    let unit = 2 ^ low binary64 in
    let size = grid binary64 (a * 48) c in
    let is : product beat ≡ round binary64 s (a * 48) c =
    mul-value binary64 beat (of_int binary64 (pos 48)) s false a c 48 1 z.den_pos (zero-lt-suc 0) z.value (like_48 binary64)
    ∙ ap (λ (b : Bool). round binary64 b (a * 48) (c * 1)) (unlike-positive s)
    ∙ ap (round binary64 s (a * 48)) (mul-one c) in
    let value : HasValue (product beat) s size unit =
    subst (λ (x : Float). HasValue x s size unit) (sym is) (round-units binary64 s (a * 48) c (product-fine binary64 a c z.den_pos z.small)) in
    let small : size ≤ most_row * unit = grid_le binary64 (a * 48) c most_row z.den_pos (lit≤ tt) (omega (arith, z.small)) in (
      sizes_le least_float (product beat) true s 2147483648 1 size unit (zero-lt-suc 0) (pow_pos (low binary64)) (refl, refl) value (from-least s (size * 1) (2147483648 * unit) (in_least size unit small)),
      sizes_le (product beat) most_float s false size unit 2147483647 1 (pow_pos (low binary64)) (zero-lt-suc 0) value (refl, refl) (to-most s (size * 1) (2147483647 * unit) (in_most size unit small)),
    )

-- as the machine's integers: the casts lose nothing, and the difference is the row
module _ (beat : Float) (h : T (allowed_beat beat)) where
  within : InI32 (product beat)
  within = product-within beat h

  pub mark-number : T (not (is_nan (row_mark beat)))
  unfolding row_mark
  mark-number = sum_number (product beat) within

  pub mark-in64 : SFits w64 (pos (to_bits binary64 (row_mark beat)))
  unfolding row_mark
  mark-in64 = pattern-in64 (product beat) within

  pub count-in64 : SFits w64 (to_z w64 (to_bits binary64 (row_mark beat)) -ℤ pos bias_pattern)
  unfolding row_mark
  count-in64 = difference-in64 (product beat) within

  pub count_in32 : SFits w32 (to_z w64 (of_z w64 (to_z w64 (to_bits binary64 (row_mark beat)) -ℤ pos bias_pattern)))
  unfolding row_mark
  count_in32 = difference_in32 (product beat) within

  pub row_by_sum : to_z w32 (of_z w32 (to_z w64 (of_z w64 (to_z w64 (to_bits binary64 (row_mark beat)) -ℤ pos bias_pattern)))) ≡ row binary64 beat
  unfolding row_mark
  row_by_sum = difference32 (product beat) within ∙ sym (held-within (rint (product beat)) (within-small (product beat) within))
