-- `round` rounds a fraction to a whole number of steps, of as many units as the digits that it drops make. A value of the format is a whole number of those steps, or is farther away than what is kept; and the last digit of what is kept is the value's. Over the format. Assumes nothing.
use mathlib.Core.Path.{◌≡◌, sym, ap, ◌∙◌, subst}
use mathlib.Core.Logic.{◌⊎◌, ◌≢◌, inl, inr}
use Prim.Native.Nat.{ℕ, suc, ◌+◌, ◌-◌, ◌*◌, ◌/◌, ◌%◌, ◌^◌, ◌≤◌, ◌<◌}
use native.Mathlib.Nat.{le_trans, le_of_eq, le_of_lt, lt_of_lt_of_le, lt_irrefl, mul-pos, mul_assoc, mul-lt-mul_of_pos_right, le-div_iff_mul-le, pow-suc}
use native.Mathlib.Omega.{arith}
use mathlib.Core.Bool.{Bool, true, false, cond}
use lib.Pow.{pow-add, pow_pos, pow_mono}
use lib.Ieee.{Float, Format, prec, low, hid, ones, to_bits}
use lib.Ieee.Digits.{size_reaches}
use lib.Ieee.Fits.{two}
use lib.Ieee.Exact.{HasValue}
use Rattle.ieee.specs.Nearest.{gap, NearestWhole}
use Rattle.ieee.proofs.Closest.{lt_or_ge}
use Rattle.ieee.proofs.NearestWhole.{closest_nearest, none_nearer, even_of_tie}
use Rattle.ieee.proofs.Pack.{dropped, held, pattern_of}

-- ---- n / den in units, rounded to `kept` steps of u units; w is another number of units
pub record Beats (n den u kept w : ℕ) : Type 0 where
  pub near : gap (kept * u * den) n ≤ gap (w * den) n
  pub tie : w ≢ kept * u → gap (kept * u * den) n ≡ gap (w * den) n → kept % 2 ≡ 0

pub by-steps : (den u c : ℕ) → c * (den * u) ≡ c * u * den
by-steps den u c = omega arith

module _ (n den u kept : ℕ) (nearest : NearestWhole n (den * u) kept) where
  beats-step : (c : ℕ) → Beats n den u kept (c * u)
  beats-step c =
      record {
        near = rw (by-steps den u kept, by-steps den u c) at (none_nearer n (den * u) kept c nearest);
        tie = λ d e. even_of_tie n (den * u) kept c nearest (λ i. d (ap (λ (x : ℕ). x * u) i)) (rw (by-steps den u kept, by-steps den u c) e);
      }

  -- past c steps, seen from the fraction
  farther : (c w : ℕ) → 0 < den → w < c * u → c * u * den ≤ n → gap (kept * u * den) n < gap (w * den) n
  farther c w D l h =
      let a = (beats-step c).near in
      let b = mul-lt-mul_of_pos_right l D in
      let less : gap (c * u * den) n < gap (w * den) n = omega arith in
      omega arith

module _ (f : Format) (num den : ℕ) (D : 0 < den) where
  pub steps-nearest : NearestWhole (num * 2 ^ low f) (den * 2 ^ dropped f num den) (held f num den)
  steps-nearest = closest_nearest (num * 2 ^ low f) (den * 2 ^ dropped f num den) (mul-pos D (pow_pos (dropped f num den)))

  -- where digits are dropped, the fraction has all that the format keeps
  pub full : 0 < dropped f num den → 2 ^ (prec f - 1) * 2 ^ dropped f num den * den ≤ num * 2 ^ low f
  full K =
      let p = prec f - 1 in
      let k = dropped f num den in
      let t = two f in
      le_trans (le_of_eq (ap (λ (x : ℕ). x * den) (sym (pow-add 2 p k)))) ((le-div_iff_mul-le D).0 (size_reaches (num * 2 ^ low f / den) (p + k) (omega arith)))

  -- so a value of f is a whole number of steps, or it has fewer digits dropped, and is farther away
  pub step_or_farther : (q j : ℕ) → q < 2 ^ prec f
      → ((c : ℕ) × (q * 2 ^ j ≡ c * 2 ^ dropped f num den)) ⊎ (gap (held f num den * 2 ^ dropped f num den * den) (num * 2 ^ low f) < gap (q * 2 ^ j * den) (num * 2 ^ low f))
  step_or_farther q j few =
      let k = dropped f num den in
      elim (lt_or_ge j k) [
        | inl l ↦
            let p = prec f - 1 in
            let t = two f in
            let a : q * 2 ^ j < 2 ^ p * 2 ^ k =
            lt_of_lt_of_le (mul-lt-mul_of_pos_right few (pow_pos j)) (le_trans (le_of_eq (sym (pow-add 2 (prec f) j))) (le_trans (pow_mono {j = p + k} (omega arith)) (le_of_eq (pow-add 2 p k)))) in
            inr (farther (num * 2 ^ low f) den (2 ^ k) (held f num den) steps-nearest (2 ^ p) (q * 2 ^ j) D a (full (omega arith)))
        | inr l ↦
            let i : j - k + k ≡ j = omega arith in
            inl (q * 2 ^ (j - k), ap (λ (x : ℕ). q * x) (ap (λ (x : ℕ). 2 ^ x) (sym i) ∙ pow-add 2 (j - k) k) ∙ sym (mul_assoc q (2 ^ (j - k)) (2 ^ k)))
      ]

  pub beats : (q j : ℕ) → q < 2 ^ prec f → Beats (num * 2 ^ low f) den (2 ^ dropped f num den) (held f num den) (q * 2 ^ j)
  beats q j few =
      let n = num * 2 ^ low f in
      let u = 2 ^ dropped f num den in
      elim (step_or_farther q j few) [
        | inl c ↦ subst (λ (w : ℕ). Beats n den u (held f num den) w) (sym c.1) (beats-step n den u (held f num den) steps-nearest c.0)
        | inr l ↦ record { near = le_of_lt l; tie = λ d e. absurd (lt_irrefl _ (subst (λ (x : ℕ). x < gap (q * 2 ^ j * den) n) e l)) }
      ]

-- ---- the last digit
even-fields : (s : Bool) (g o k q : ℕ) → (cond s (g * 2 * suc o) 0 + (k * (g * 2) + q)) % 2 ≡ q % 2
even-fields true g o k q = omega arith
even-fields false g o k q = omega arith

pub last-digit : (f : Format) (y : Float) (s : Bool) (q k : ℕ) → HasValue y s (q * 2 ^ k) (2 ^ low f) → q ≤ 2 ^ prec f → (0 < k → 2 ^ (prec f - 1) ≤ q) → to_bits f y % 2 ≡ q % 2
last-digit f y s q k v hi lo =
    let t = two f in
    let i : suc (prec f - 2) ≡ prec f - 1 = omega arith in
    let g : 2 ^ (prec f - 2) * 2 ≡ hid f = sym (pow-suc 2 (prec f - 2)) ∙ ap (λ (x : ℕ). 2 ^ x) i in
    ap (λ (x : ℕ). x % 2) (pattern_of f y s q k v hi lo)
    ∙ subst (λ (x : ℕ). (cond s (x * suc (ones f)) 0 + (k * x + q)) % 2 ≡ q % 2) g (even-fields s (2 ^ (prec f - 2)) (ones f) k q)
