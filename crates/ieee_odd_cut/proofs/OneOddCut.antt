-- Rounding to odd as a relation, said with products alone: a number has just one odd cut, and `odd_cut` is it; how it scales and is cut again. Assumes nothing.
use mathlib.Core.Path.{◌≡◌, refl, sym, ap}
use mathlib.Core.Logic.{◌⊎◌, inl, inr}
use Prim.Native.Nat.{ℕ, ◌+◌, ◌-◌, ◌*◌, ◌/◌, ◌%◌, ◌≤◌, ◌<◌}
use native.Mathlib.Nat.{mul-le-mul_right, mul-lt-mul_of_pos_right, mul-pos, mod-lt, div-add-mod', eq-zero-or-pos}
use native.Mathlib.Omega.{arith}
use borrow.Author.Tests.{ne_eqb}
use Rattle.ieee.proofs.Closest.{tri, lt_or_ge}
use Rattle.ieee_odd_cut.specs.OddCut.{made_odd, odd_cut}

-- w is x / d, or odd and less than 1 away from it
abbrev pub IsOddCut : ℕ → ℕ → ℕ → Type 0
IsOddCut x d w = (w * d ≡ x) ⊎ ((w % 2 ≡ 1) × (w * d < x + d) × (x < w * d + d))

-- ---- `odd_cut` is the one that is
-- where something is left over
pub made-lost : (q r : ℕ) → 0 < r → made_odd q r ≡ q / 2 * 2 + 1
unfolding made_odd
made-lost q r h = rw (ne_eqb r 0 (λ e. omega arith)) refl

odd_step : (q d r x w : ℕ) → q * d + r ≡ x → 0 < r → r < d → w ≡ q / 2 * 2 + 1 → IsOddCut x d w
odd_step q d r x w e R L h = elim (lt_or_ge (q % 2) 1) [
  | inl z ↦
      let i : w ≡ q + 1 = omega arith in
      let j = ap (λ (t : ℕ). t * d) i in
      inr (omega arith, omega arith, omega arith)
  | inr z ↦
      let i : w ≡ q = omega arith in
      let j = ap (λ (t : ℕ). t * d) i in
      inr (omega arith, omega arith, omega arith)
]

-- `odd_cut` is one
pub is_odd_cut : (x d : ℕ) → 0 < d → IsOddCut x d (odd_cut x d)
unfolding odd_cut made_odd
is_odd_cut x d D = elim (eq-zero-or-pos (x % d)) [
  | inl z ↦
      let e = div-add-mod' x d in
      let i : odd_cut x d ≡ x / d = ap (made_odd (x / d)) z in
      let j = ap (λ (t : ℕ). t * d) i in
      inl (omega arith)
  | inr p ↦ odd_step (x / d) d (x % d) x (odd_cut x d) (div-add-mod' x d) p (mod-lt x D) (made-lost (x / d) (x % d) p)
]

not_two : (x d w v : ℕ) → 0 < d → IsOddCut x d w → IsOddCut x d v → w < v → ⊥
not_two x d w v D (inl e) (inl g) l = let m = mul-le-mul_right d l in omega arith
not_two x d w v D (inl e) (inr g) l = let m = mul-le-mul_right d l in omega arith
not_two x d w v D (inr g) (inl e) l = let m = mul-le-mul_right d l in omega arith
not_two x d w v D (inr g) (inr h) l = let two : w + 2 ≤ v = omega arith in let m = mul-le-mul_right d two in omega arith

-- and there is no other
pub only_odd_cut : (x d w : ℕ) → 0 < d → IsOddCut x d w → odd_cut x d ≡ w
only_odd_cut x d w D h = elim (tri (odd_cut x d) w) [
  | inl l ↦ absurd (pos_case l)
  | inr (inl e) ↦ e
  | inr (inr l) ↦ absurd (not_two x d w (odd_cut x d) D h (is_odd_cut x d D) l)
]
  where
    pos_case : odd_cut x d < w → ⊥
    pos_case l = not_two x d (odd_cut x d) w D (is_odd_cut x d D) h l

-- ---- with a factor in both
pub scaled-cut : (x d w c : ℕ) → 0 < c → IsOddCut x d w → IsOddCut (x * c) (d * c) w
scaled-cut x d w c C (inl e) = let i = ap (λ (t : ℕ). t * c) e in inl (omega arith)
scaled-cut x d w c C (inr h) =
    let a = mul-lt-mul_of_pos_right h.1 C in
    let b = mul-lt-mul_of_pos_right h.2 C in
    inr (h.0, omega arith, omega arith)

-- so `odd_cut` does not see the factor
pub cut-scaled : (x d c : ℕ) → 0 < d → 0 < c → odd_cut (x * c) (d * c) ≡ odd_cut x d
cut-scaled x d c D C = only_odd_cut (x * c) (d * c) (odd_cut x d) (mul-pos D C) (scaled-cut x d (odd_cut x d) c C (is_odd_cut x d D))

-- ---- cut again, by an even number
even-product : (v b : ℕ) → b % 2 ≡ 0 → v * b % 2 ≡ 0
even-product v b B = let h : b ≡ b / 2 * 2 = omega arith in let i = ap (λ (t : ℕ). v * t) h in let j : v * (b / 2 * 2) ≡ v * (b / 2) * 2 = omega arith in omega arith

-- a cut of a cut is the cut by the product
pub cut_twice_is : (x a w b v : ℕ) → 0 < a → b % 2 ≡ 0 → IsOddCut x a w → IsOddCut w b v → IsOddCut x (a * b) v
cut_twice_is x a w b v A B (inl e) (inl g) = let i = ap (λ (t : ℕ). t * a) g in inl (omega arith)
cut_twice_is x a w b v A B (inl e) (inr g) =
    let i = mul-lt-mul_of_pos_right g.1 A in
    let j = mul-lt-mul_of_pos_right g.2 A in
    inr (g.0, omega arith, omega arith)
cut_twice_is x a w b v A B (inr h) (inl g) = let k = even-product v b B in absurd (omega arith)
cut_twice_is x a w b v A B (inr h) (inr g) =
    let m1 = mul-le-mul_right a g.1 in
    let m2 = mul-le-mul_right a g.2 in
    inr (g.0, omega arith, omega arith)

-- of `odd_cut` itself
pub cut_twice : (x a b : ℕ) → 0 < a → 0 < b → b % 2 ≡ 0 → odd_cut (odd_cut x a) b ≡ odd_cut x (a * b)
cut_twice x a b A B E =
    sym (only_odd_cut x (a * b) (odd_cut (odd_cut x a) b) (mul-pos A B) (cut_twice_is x a (odd_cut x a) b (odd_cut (odd_cut x a) b) A E (is_odd_cut x a A) (is_odd_cut (odd_cut x a) b B)))

-- ---- only 0 is cut to 0
pub cut_to_zero : (x d w : ℕ) → IsOddCut x d w → w ≡ 0 → x ≡ 0
cut_to_zero x d w (inl e) z = let i = ap (λ (t : ℕ). t * d) z in omega arith
cut_to_zero x d w (inr h) z = absurd (omega arith)
