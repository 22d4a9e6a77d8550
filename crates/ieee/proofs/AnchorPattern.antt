-- The pattern that `anchor` makes of a's, and the least that it gives, are 2 ^ 52 of the steps at which the values of binary32 lie around a. Assumes nothing.
use mathlib.Core.Path.{◌≡◌, refl, sym, ap, ◌∙◌, subst}
use mathlib.Core.Logic.{inl, inr}
use Prim.Native.Nat.{ℕ, ◌+◌, ◌*◌, ◌/◌, ◌^◌, ◌≤◌, ◌<◌}
use native.Mathlib.Nat.{mul-le-mul_left, mul-lt-mul_of_pos_left, not-le_of_lt}
use native.Mathlib.Omega.{arith}
use mathlib.Core.Bool.{Bool, true, false, not}
use lib.Dec.{T, ltb, ltb→lt, nltb→le, lit<}
use lib.IntN.{negsuc}
use lib.Pow.{pow-add, pow_pos, pow_mono, pow-lt}
use lib.Ieee.{Float, fin, binary64, lt, to_bits, of_bits, nan_bits}
use lib.Ieee.Exact.{HasValue}
use borrow.Author.Tests.{lt-leb}
use Rattle.ieee.specs.inside.Spacing.{step_power, Anchor}
use Rattle.ieee.proofs.Closest.{lt_or_ge}
use Rattle.ieee.proofs.Fields.{normal_bits}
use Rattle.ieee.proofs.Signs.{number_bits}
use Rattle.ieee.proofs.StepPower.{Around}
use Rattle.ieee.proofs.SumByValue.{lt-values}
use Rattle.ieee.proofs.Values.{rescaled, finite_of, finite_number}

-- the code's literal, 2 ^ -97
abbrev pub least_anchor : Float
least_anchor = fin false 1 (negsuc 96)

least-value : HasValue least_anchor false (2 ^ 52 * 2 ^ 925) (2 ^ 1074)
least-value = (refl, refl)

-- 29 more in the exponent's field, and no digits
unfoldable pub moved : ℕ → ℕ
moved b = b / 0x10_0000_0000_0000 * 0x10_0000_0000_0000 + 0x01d0_0000_0000_0000

swap : (m k p q pq : ℕ) → pq ≡ p * q → m * k * pq ≡ m * (p * k) * q
swap m k p q pq e = let i = ap (λ (x : ℕ). m * k * x) e in omega arith

module _ (a : Float) (n : ℕ) (A : Around a n) where
  moved_value : HasValue (of_bits binary64 (moved (to_bits binary64 a))) false (2 ^ 52 * 2 ^ (to_bits binary64 a / 2 ^ 52 + 28)) (2 ^ 1074)
  unfolding moved
  moved_value =
      let b = to_bits binary64 a in
      let l = A.field in
      normal_bits binary64 (moved b) false (b / 2 ^ 52 + 28) 0 (lt-leb 0x8000_0000_0000_0000 (moved b) (omega arith)) (omega arith) (omega arith) (omega arith)

  pub moved-number : T (not (nan_bits binary64 (moved (to_bits binary64 a))))
  moved-number =
      let c = of_bits binary64 (moved (to_bits binary64 a)) in
      number_bits binary64 (moved (to_bits binary64 a)) c refl (finite_number c (finite_of c false (2 ^ 52 * 2 ^ (to_bits binary64 a / 2 ^ 52 + 28)) (2 ^ 1074) moved_value))

  -- which of the two is larger, by the exponents
  test-is : lt least_anchor (of_bits binary64 (moved (to_bits binary64 a))) ≡ ltb (2 ^ 52 * 2 ^ 925) (2 ^ 52 * 2 ^ (to_bits binary64 a / 2 ^ 52 + 28))
  test-is = lt-values least_anchor (of_bits binary64 (moved (to_bits binary64 a))) (2 ^ 52 * 2 ^ 925) (2 ^ 52 * 2 ^ (to_bits binary64 a / 2 ^ 52 + 28)) (2 ^ 1074) (pow_pos 1074) least-value moved_value

  pub anchor_moved : lt least_anchor (of_bits binary64 (moved (to_bits binary64 a))) ≡ true → Anchor a (of_bits binary64 (moved (to_bits binary64 a)))
  anchor_moved h =
      let x = to_bits binary64 a / 2 ^ 52 + 28 in
      let k = step_power a in
      let l = ltb→lt (2 ^ 52 * 2 ^ 925) (2 ^ 52 * 2 ^ x) (subst T (sym h ∙ test-is) tt) in
      let above : 925 < x = elim (lt_or_ge 925 x) [ inl g ↦ g | inr g ↦ absurd (not-le_of_lt l (mul-le-mul_left (2 ^ 52) (pow_mono g))) ] in
      let e : x ≡ 925 + k = omega arith in
      rescaled (of_bits binary64 (moved (to_bits binary64 a))) false (2 ^ 52 * 2 ^ x) (2 ^ 1074) (2 ^ 52 * 2 ^ k) (2 ^ 149) (pow_pos 1074)
      (swap (2 ^ 52) (2 ^ k) (2 ^ 925) (2 ^ 149) (2 ^ 1074) (pow-add 2 925 149) ∙ ap (λ (y : ℕ). 2 ^ 52 * y * 2 ^ 149) (sym (pow-add 2 925 k) ∙ ap (λ (y : ℕ). 2 ^ y) (sym e))) moved_value

  pub anchor_least : lt least_anchor (of_bits binary64 (moved (to_bits binary64 a))) ≡ false → Anchor a least_anchor
  anchor_least h =
      let x = to_bits binary64 a / 2 ^ 52 + 28 in
      let l = nltb→le (2 ^ 52 * 2 ^ 925) (2 ^ 52 * 2 ^ x) (subst (λ (t : Bool). T (not t)) (sym h ∙ test-is) tt) in
      let below : x ≤ 925 = elim (lt_or_ge 925 x) [ inl g ↦ absurd (not-le_of_lt (mul-lt-mul_of_pos_left (pow-lt g) (lit< tt)) l) | inr g ↦ g ] in
      let e : step_power a ≡ 0 = omega arith in
      subst (λ (k : ℕ). HasValue least_anchor false (2 ^ 52 * 2 ^ k) (2 ^ 149)) (sym e) (refl, refl)
