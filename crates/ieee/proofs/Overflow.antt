-- `round` goes past a format's range exactly from 2 ^ emax * (2 - 2 ^ -prec) on, over the format. Assumes nothing.
use mathlib.Core.Path.{◌≡◌, sym, ap, ◌∙◌, subst}
use mathlib.Core.Logic.{inl, inr}
use Prim.Native.Nat.{ℕ, suc, ◌+◌, ◌-◌, ◌*◌, ◌/◌, ◌^◌, ◌≤◌, ◌<◌}
use native.Mathlib.Nat.{le_trans, le_of_eq, mul-le-mul_right, mul-le-mul_left, mul-pos, le_of_mul-le-mul_right, le-div_iff_mul-le, sub-le, pow-suc, two-pow-succ, eq-or-lt_of_le}
use native.Mathlib.Omega.{arith}
use mathlib.Core.Bool.{Bool, false}
use lib.Dec.{T, lit≤}
use lib.Pow.{pow-add, pow_pos}
use lib.Ieee.{Float, nan, inf, fin, Format, binary32, binary64, prec, emax, low, size, round, le}
use lib.Ieee.Digits.{size_reaches}
use lib.Ieee.Fits.{two, reach}
use lib.Ieee.Exact.{HasValue}
use lib.Ieee.Order.{round_mono}
use lib.Ieee.Scale.{grid, overflow}
use Rattle.ieee.specs.Nearest.{Overflows}
use Rattle.ieee.proofs.Closest.{lt_or_ge}
use Rattle.ieee.proofs.NearestWhole.{closest_err}
use Rattle.ieee.proofs.Pack.{dropped, held, held_le, le_back}
use Rattle.ieee.proofs.Units.{round-units, round-past}

-- ---- what goes past the range is that large; p digits, m the largest exponent, q * 2 ^ k the rounded number of units
module _ (p m num den : ℕ) (P : 2 ≤ p) (M : 1 ≤ m) where
  -- 2 ^ (m + 1) or more
  far-past : 2 ^ (m + p - 2 + suc m) * den ≤ num * 2 ^ (m + p - 2) → 2 ^ m * (2 ^ suc p - 1) * den ≤ num * 2 ^ p
  far-past h =
      let i = ap (λ (x : ℕ). x * den) (pow-add 2 (m + p - 2) (suc m)) in
      let a : 2 ^ suc m * den ≤ num = le_of_mul-le-mul_right {k = 2 ^ (m + p - 2)} (omega arith) (pow_pos (m + p - 2)) in
      let b = mul-le-mul_right (2 ^ p) a in
      let c = ap (λ (x : ℕ). x * den * 2 ^ p) (two-pow-succ m) in
      let d = ap (λ (x : ℕ). 2 ^ m * x * den) (two-pow-succ p) in
      le_trans (mul-le-mul_right den (mul-le-mul_left (2 ^ m) (sub-le (2 ^ suc p) 1))) (omega arith)

  -- below that, where the values are 2 ^ k units apart
  just_past : (k q : ℕ) → m + p - 2 + suc m ≡ p + k → 2 ^ (m + p - 2 + suc m) ≤ q * 2 ^ k → q * (den * 2 ^ k) * 2 ≤ num * 2 ^ (m + p - 2) * 2 + den * 2 ^ k
      → 2 ^ m * (2 ^ suc p - 1) * den ≤ num * 2 ^ p
  just_past k q e past near =
      let a : 2 ^ p ≤ q = le_of_mul-le-mul_right (le_trans (le_of_eq (sym (pow-add 2 p k) ∙ ap (λ (x : ℕ). 2 ^ x) (sym e))) past) (pow_pos k) in
      let b = mul-le-mul_right (den * 2 ^ k) a in
      let odd = 2 ^ suc p - 1 in
      let c : odd + 1 ≡ 2 ^ p + 2 ^ p = let t = two-pow-succ p in let z = pow_pos p in omega arith in
      let d = ap (λ (x : ℕ). x * (den * 2 ^ k)) c in
      let j : m + (m - 1) ≡ k = omega arith in
      let l : suc (m + p - 2) ≡ p + (m - 1) = omega arith in
      let u = ap (λ (x : ℕ). odd * den * x) (sym (pow-add 2 m (m - 1)) ∙ ap (λ (x : ℕ). 2 ^ x) j) in
      let v = ap (λ (x : ℕ). num * x) (sym (pow-suc 2 (m + p - 2)) ∙ ap (λ (x : ℕ). 2 ^ x) l ∙ pow-add 2 p (m - 1)) in
      le_of_mul-le-mul_right {k = 2 ^ (m - 1)} (omega arith) (pow_pos (m - 1))

pub past_overflows : (f : Format) (num den : ℕ) → 0 < den → overflow f ≤ grid f num den → Overflows f num den
past_overflows f num den D h =
    let p = prec f in
    let m = emax f in
    let k = dropped f num den in
    let l = le_back (m + p - 2 + suc m) (p + k) (le_trans h (le_trans (mul-le-mul_right (2 ^ k) (held_le f num den)) (le_of_eq (sym (pow-add 2 p k))))) in
    elim (eq-or-lt_of_le l) [
      | inl e ↦ just_past p m num den (two f) (omega (arith, two f, reach f)) k (held f num den) e h (closest_err (num * 2 ^ low f) (den * 2 ^ k) (mul-pos D (pow_pos k))).0
      | inr g ↦
          far-past p m num den (two f) (omega (arith, two f, reach f))
          ((le-div_iff_mul-le D).0 (size_reaches (num * 2 ^ low f / den) (m + p - 2 + suc m) (omega (arith, two f, reach f))))
    ]

-- ---- and what is that large goes past it
edge : (f : Format) → overflow f ≤ grid f (2 ^ emax f * (2 ^ suc (prec f) - 1)) (2 ^ prec f)
unfolding size
edge binary32 = lit≤ tt
edge binary64 = lit≤ tt

above_inf : (y : Float) (s : Bool) (n c : ℕ) → T (le (inf false) y) → HasValue y s n c → ⊥
unfolding le
above_inf nan s n c h v = v
above_inf (inf t) s n c h v = v
above_inf (fin t m e) s n c h v = h

pub overflows_past : (f : Format) (num den : ℕ) → 0 < den → Overflows f num den → overflow f ≤ grid f num den
overflows_past f num den D h = elim (lt_or_ge (grid f num den) (overflow f)) [
  | inl l ↦
      absurd
      (above_inf (round f false num den) false (grid f num den) (2 ^ low f)
      (subst (λ (x : Float). T (le x (round f false num den))) (round-past f false (2 ^ emax f * (2 ^ suc (prec f) - 1)) (2 ^ prec f) (edge f)) (round_mono f (2 ^ emax f * (2 ^ suc (prec f) - 1)) (2 ^ prec f) num den (pow_pos (prec f)) D h))
      (round-units f false num den l))
  | inr g ↦ g
]
