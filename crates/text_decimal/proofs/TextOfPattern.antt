-- The text of a float by its pattern: by its digits and its power, and where it is not finite. Assumes nothing.
use Prim.Native.Nat.{ℕ, ◌+◌, ◌*◌, ◌%◌, ◌/◌, ◌^◌, ◌<◌}
use mathlib.Core.Path.{◌≡◌, sym, ap, ◌∙◌}
use mathlib.Core.Bool.{Bool}
use mathlib.Core.List.{[], ◌∷◌, ◌++◌}
use native.Mathlib.Omega.{arith}
use native.Mathlib.Nat.{mul_assoc, mul_right_comm}
use lib.Dec.{T, leb}
use lib.Pow.{pow-add, pow_pos}
use lib.Ieee.{Float, nan, inf, fin, binary32, fits, of_bits, to_bits, of_fields, up, down}
use lib.Ieee.Bits.{of_bits-to_bits}
use lib.Ieee.Fits.{down_pos}
use lib.Ieee.Exact.{HasValue}
use lib.Ieee.Nearest.{closest, closest_same}
use Rattle.ieee.specs.inside.PatternParts.{field_of, digits_of, power_of}
use Rattle.ieee.proofs.ClosestLaws.{closest_whole}
use Rattle.ieee.proofs.PatternValue.{pattern-value}
use Rattle.ieee_patterns.proofs.Nan.{nan_pattern}
use Rattle.text_decimal.specs.Dec6.{minus_sign, millionths_text, dec6}

-- ---- by its value, whatever the fraction
value-text : (x : Float) (s : Bool) (a c : ℕ) → 0 < c → HasValue x s a c → dec6 x ≡ minus_sign s ++ millionths_text (closest (a * 1000000) c)
unfolding dec6
value-text nan s a c C v = absurd v
value-text (inf t) s a c C v = absurd v
value-text (fin t m e) s a c C v =
    let same : closest (m * up e * 1000000) (down e) ≡ closest (a * 1000000) c =
    closest_same (m * up e * 1000000) (down e) (a * 1000000) c (down_pos e) C
    (mul_right_comm (m * up e) 1000000 c ∙ ap (λ (z : ℕ). z * 1000000) v.1 ∙ mul_right_comm a (down e) 1000000) in
    ap (λ (t : Bool). minus_sign t ++ millionths_text (closest (m * up e * 1000000) (down e))) v.0
    ∙ ap (λ (n : ℕ). minus_sign s ++ millionths_text n) same

-- ---- by its pattern
infinite-pattern : (b : ℕ) → b % 2147483648 ≡ 2139095040 → of_bits binary32 b ≡ inf (leb 2147483648 b)
unfolding of_bits of_fields
infinite-pattern b h =
    let field : b % 2147483648 / 8388608 ≡ 255 = omega arith in
    let rest : b % 8388608 ≡ 0 = omega arith in
    rw (field, rest)

-- the text of x, whose pattern is b
module _ (x : Float) (b : ℕ) (f : T (fits binary32 x)) (e : b ≡ to_bits binary32 x) where
  same : of_bits binary32 b ≡ x
  same = ap (of_bits binary32) e ∙ of_bits-to_bits binary32 x f

  pub finite-text : field_of binary32 b < 255
      → minus_sign (leb 2147483648 b) ++ millionths_text (closest (digits_of binary32 b * 2 ^ power_of binary32 b * 1000000) (2 ^ 149)) ≡ dec6 x
  finite-text h = sym (value-text (of_bits binary32 b) (leb 2147483648 b) _ (2 ^ 149) (pow_pos 149) (pattern-value binary32 b h)) ∙ ap dec6 same

  pub infinite-text : b % 2147483648 ≡ 2139095040 → minus_sign (leb 2147483648 b) ++ (105 ∷ 110 ∷ 102 ∷ []) ≡ dec6 x
  unfolding dec6
  infinite-text h = ap dec6 (sym (infinite-pattern b h) ∙ same)

  pub nan-text : 2139095040 < b % 2147483648 → 78 ∷ 97 ∷ 78 ∷ [] ≡ dec6 x
  unfolding dec6
  nan-text h = ap dec6 (nan_pattern binary32 b h ∙ same)

-- ---- the power of two, taken out of the fraction
-- below 2 ^ 149
pub below-units : (m j k : ℕ) → j + k ≡ 149 → closest (m * 2 ^ j * 1000000) (2 ^ 149) ≡ closest (m * 1000000) (2 ^ k)
below-units m j k e =
    closest_same (m * 2 ^ j * 1000000) (2 ^ 149) (m * 1000000) (2 ^ k) (pow_pos 149) (pow_pos k)
    (mul_right_comm (m * 2 ^ j) 1000000 (2 ^ k)
    ∙ ap (λ (z : ℕ). z * 1000000) (mul_assoc m (2 ^ j) (2 ^ k) ∙ ap (λ (z : ℕ). m * z) (sym (pow-add 2 j k) ∙ ap (λ (z : ℕ). 2 ^ z) e))
    ∙ mul_right_comm m (2 ^ 149) 1000000)

-- from there on
pub whole-units : (m j i : ℕ) → j ≡ i + 149 → closest (m * 2 ^ j * 1000000) (2 ^ 149) ≡ m * 2 ^ i * 1000000
whole-units m j i e =
    ap (λ (z : ℕ). closest z (2 ^ 149))
    (ap (λ (z : ℕ). m * 2 ^ z * 1000000) e
    ∙ ap (λ (z : ℕ). z * 1000000) (ap (λ (z : ℕ). m * z) (pow-add 2 i 149) ∙ sym (mul_assoc m (2 ^ i) (2 ^ 149)))
    ∙ mul_right_comm (m * 2 ^ i) (2 ^ 149) 1000000)
    ∙ closest_whole (m * 2 ^ i * 1000000) (2 ^ 149) (pow_pos 149)
