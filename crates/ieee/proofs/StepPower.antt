-- How far apart the values of binary32 are around a binary64 that is not negative and does not overflow there: the exponent's field says it (`step_power`), and so does what `round` drops. Assumes nothing.
use mathlib.Core.Path.{◌≡◌, refl, sym, ap, ◌∙◌, subst}
use mathlib.Core.Logic.{inl, inr}
use Prim.Native.Nat.{ℕ, suc, ◌+◌, ◌-◌, ◌*◌, ◌/◌, ◌^◌, ◌≤◌, ◌<◌}
use native.Mathlib.Nat.{le_trans, le_of_eq, lt_of_lt_of_le, mul-one, mul_assoc, le-div_iff_mul-le, div-lt_iff_lt-mul, div-eq_of_lt, zero-lt-suc}
use native.Mathlib.Omega.{arith}
use mathlib.Core.Bool.{Bool, false}
use lib.Dec.{T, ltb→lt, lit≤}
use lib.Pow.{pow-add, pow_pos, pow_mono}
use lib.Ieee.{Float, nan, inf, fin, binary32, binary64, size, fits, lt, to_bits}
use lib.Ieee.Digits.{size-lt, size-le, size_reaches}
use lib.Ieee.Exact.{HasValue}
use lib.Ieee.Fits.{kept-lt}
use lib.Ieee.Nearest.{div_same}
use lib.Ieee.Scale.{finite}
use Rattle.ieee.specs.Nearest.{Overflows, sign_of}
use Rattle.ieee.specs.inside.Spacing.{boundary, step_power}
use Rattle.ieee.proofs.Closest.{lt_or_ge}
use Rattle.ieee.proofs.Pack.{size-between, dropped, to_bits_of}
use Rattle.ieee.proofs.SumByValue.{lt-values}
use Rattle.ieee.proofs.Units.{in_units}

-- ---- digits cut from the end
size-cut : (n t : ℕ) → size (n / 2 ^ t) ≡ size n - t
size-cut n t = elim (lt_or_ge t (size n)) [
  | inl l ↦
      let j = size n - suc t in
      let e : j + t < size n = omega arith in
      let g : suc j + t ≡ size n = omega arith in
      size-between (n / 2 ^ t) j
      ((le-div_iff_mul-le (pow_pos t)).1 (le_trans (le_of_eq (sym (pow-add 2 j t))) (size_reaches n (j + t) e)))
      ((div-lt_iff_lt-mul (pow_pos t)).1 (lt_of_lt_of_le (size-lt n) (le_of_eq (ap (λ (x : ℕ). 2 ^ x) (sym g) ∙ pow-add 2 (suc j) t))))
      ∙ omega arith
  | inr l ↦
      let z : n / 2 ^ t ≡ 0 = div-eq_of_lt (lt_of_lt_of_le (size-lt n) (pow_mono l)) in
      let s = size-le 0 0 (zero-lt-suc 0) in
      ap size z ∙ omega arith
]

-- ---- a is n times the smallest value of binary64
pub record Around (a : Float) (n : ℕ) : Type 0 where
  pub is : HasValue a false n (2 ^ 1074)
  pub drops : dropped binary32 n (2 ^ 1074) ≡ step_power a
  pub room : n < 2 ^ 52 * 2 ^ (925 + step_power a)
  pub field : to_bits binary64 a / 2 ^ 52 ≤ 1150
  pub small : ¬ Overflows binary32 n (2 ^ 1074)

-- the exponent's field, from the pattern
field-full : (z u b : ℕ) → 53 ≤ z → 2 ^ 52 ≤ u → u < 2 ^ 53 → b ≡ 0 + ((z - 53) * 2 ^ 52 + u) → b / 2 ^ 52 ≡ z - 52
field-full z u b h lo hi e = omega arith

field-few : (z u b : ℕ) → z ≤ 52 → u < 2 ^ 52 → b ≡ 0 + ((z - 53) * 2 ^ 52 + u) → b / 2 ^ 52 ≡ 0
field-few z u b h lo e = let k : z - 53 ≡ 0 = omega arith in let i = ap (λ (x : ℕ). x * 2 ^ 52) k in omega arith

module _ (a : Float) (n : ℕ) (v : HasValue a false n (2 ^ 1074)) where
  field_is : to_bits binary64 a / 2 ^ 52 ≡ size n - 52
  field_is =
      let z = size n in
      let u = n / 2 ^ (z - 53) in
      let cut = size-cut n (z - 53) in
      let b = to_bits_of binary64 a false n v in
      elim (lt_or_ge 52 z) [
        | inl l ↦ field-full z u (to_bits binary64 a) (omega arith) (size_reaches u 52 (omega arith)) (kept-lt 53 n) b
        | inr l ↦ field-few z u (to_bits binary64 a) l (lt_of_lt_of_le (size-lt u) (pow_mono {j = 52} (omega arith))) b ∙ omega arith
      ]

  drops-is : dropped binary32 n (2 ^ 1074) ≡ step_power a
  drops-is =
      let c : n * 2 ^ 149 / 2 ^ 1074 ≡ n / 2 ^ 925 = div_same (n * 2 ^ 149) (2 ^ 1074) n (2 ^ 925) (pow_pos 1074) (pow_pos 925) (mul_assoc n (2 ^ 149) (2 ^ 925) ∙ ap (λ (x : ℕ). n * x) (sym (pow-add 2 149 925))) in
      let f = field_is in
      ap (λ (x : ℕ). size x - 24) c ∙ ap (λ (x : ℕ). x - 24) (size-cut n 925) ∙ omega arith

  room-is : n < 2 ^ 52 * 2 ^ (925 + step_power a)
  room-is = let f = field_is in lt_of_lt_of_le (size-lt n) (le_trans (pow_mono {j = 52 + (925 + step_power a)} (omega arith)) (le_of_eq (pow-add 2 52 (925 + step_power a))))

-- ---- below the boundary
boundary-value : HasValue boundary false ((2 ^ 25 - 1) * 2 ^ 103 * 2 ^ 1074) (2 ^ 1074)
boundary-value = (refl, sym (mul-one ((2 ^ 25 - 1) * 2 ^ 103 * 2 ^ 1074)))

below-boundary : (a : Float) (n : ℕ) → HasValue a false n (2 ^ 1074) → T (lt a boundary) → n < (2 ^ 25 - 1) * 2 ^ 103 * 2 ^ 1074
below-boundary a n v h = ltb→lt n ((2 ^ 25 - 1) * 2 ^ 103 * 2 ^ 1074) (subst T (lt-values a boundary n ((2 ^ 25 - 1) * 2 ^ 103 * 2 ^ 1074) (2 ^ 1074) (pow_pos 1074) v boundary-value) h)

-- d is the bottom
no_overflow : (n c p q d : ℕ) → p * 2 ^ 24 ≡ q → n < c * p * d → q * c * d ≤ n * 2 ^ 24 → ⊥
no_overflow n c p q d e l h = let i = ap (λ (x : ℕ). x * (c * d)) e in omega arith

finite-below : (a : Float) → T (lt a boundary) → sign_of a ≡ false → T (finite a)
unfolding lt
finite-below nan h s = h
finite-below (inf t) h s = subst T s h
finite-below (fin t m e) h s = tt

pub around : (a : Float) → T (fits binary64 a) → sign_of a ≡ false → T (lt a boundary) → (n : ℕ) × Around a n
around a F s h =
    let U = in_units binary64 a (finite-below a h s, F) in
    let n = U.digits * 2 ^ U.power in
    let v : HasValue a false n (2 ^ 1074) = subst (λ (t : Bool). HasValue a t n (2 ^ 1074)) s U.is in
    let l = below-boundary a n v h in
    let z : size n ≤ 1202 = size-le n 1202 (lt_of_lt_of_le l (lit≤ tt)) in
    let f = field_is a n v in (
      n,
      record {
        is = v;
        drops = drops-is a n v;
        room = room-is a n v;
        field = omega arith;
        small = λ o. no_overflow n (2 ^ 25 - 1) (2 ^ 103) (2 ^ 127) (2 ^ 1074) refl l o;
      },
    )
