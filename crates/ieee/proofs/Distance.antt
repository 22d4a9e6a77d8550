-- How far a fraction is from a float, counted in parts of a unit: the distance of `specs/Nearest.antt`, where floats are so many units, 1 / L each. Assumes nothing.
use mathlib.Core.Path.{◌≡◌, refl, sym, ap, ◌∙◌}
use mathlib.Core.Logic.{◌⊎◌, inl, inr}
use Prim.Native.Nat.{ℕ, zero, suc, ◌+◌, ◌-◌, ◌*◌, ◌≤◌, ◌<◌}
use native.Mathlib.Nat.{le_trans, le_of_lt, le_dest, le-add_right, mul-pos, mul-le-mul_right, le_of_mul-le-mul_right, eq_of_mul-eq-mul_right, zero-mul}
use native.Mathlib.Omega.{arith}
use mathlib.Core.Bool.{Bool, true, false, not, beq, cond}
use lib.IntN.{pos, negsuc, nat_abs, sub_ℕ, ◌-ℤ◌, ◌*ℤ◌}
use lib.Dec.{T, ltb, ltb→lt, nltb→le}
use lib.Ieee.{Float, nan, inf, fin, up, down}
use lib.Ieee.Fits.{down_pos}
use lib.Ieee.Exact.{HasValue}
use Rattle.ieee.specs.Rounding.{signed}
use Rattle.ieee.specs.Nearest.{gap, ratio, value_of, distance, NoFarther, AsFar}
use Rattle.ieee.proofs.Closest.{lt_or_ge}

-- ---- |±a - ±b|
abbrev pub apart : Bool → ℕ → Bool → ℕ → ℕ
apart s a t b = cond (beq s t) (gap b a) (a + b)

pub abs_sub : (a b : ℕ) → nat_abs (sub_ℕ a b) ≡ gap b a
abs_sub a b = go (ltb a b) (ltb→lt a b) (nltb→le a b)
  where
    go : (t : Bool) → (T t → a < b) → (T (not t) → b ≤ a) → nat_abs (cond t (negsuc (b - suc a)) (pos (a - b))) ≡ gap b a
    go true l g = let h = l tt in omega arith
    go false l g = let h = g tt in omega arith

abs_signed : (s : Bool) (a : ℕ) (t : Bool) (b : ℕ) → nat_abs (signed s a -ℤ signed t b) ≡ apart s a t b
abs_signed false a false zero = omega arith
abs_signed false a false (suc b) = abs_sub a (suc b)
abs_signed false a true zero = refl
abs_signed false a true (suc b) = refl
abs_signed true zero false zero = refl
abs_signed true zero false (suc b) = abs_sub 0 (suc b) ∙ omega arith
abs_signed true (suc a) false zero = abs_sub 0 (suc a) ∙ omega arith
abs_signed true (suc a) false (suc b) = omega arith
abs_signed true zero true zero = refl
abs_signed true zero true (suc b) = omega arith
abs_signed true (suc a) true zero = abs_sub 0 (suc a) ∙ omega arith
abs_signed true (suc a) true (suc b) = abs_sub (suc b) (suc a) ∙ omega arith

pub signed_mul : (s : Bool) (a c : ℕ) → signed s a *ℤ pos c ≡ signed s (a * c)
signed_mul false a c = refl
signed_mul true zero c = rw zero-mul
signed_mul true (suc a) c = refl

distance_is : (s : Bool) (a b : ℕ) (t : Bool) (c d : ℕ) → distance (ratio s a b) (ratio t c d) ≡ apart s (a * d) t (c * b)
distance_is s a b t c d = rw (signed_mul s a d, signed_mul t c b) (abs_signed s (a * d) t (c * b))

-- ---- times a number
pub gap-mul : (a b c : ℕ) → gap (a * c) (b * c) ≡ gap a b * c
gap-mul a b c = elim (lt_or_ge a b) [
  | inl l ↦ above a b (le_dest (le_of_lt l))
  | inr g ↦ swap (b * c) (a * c) ∙ above b a (le_dest g) ∙ ap (λ (x : ℕ). x * c) (swap a b)
]
  where
    swap : (a b : ℕ) → gap b a ≡ gap a b
    swap a b = omega arith

    above : (a b : ℕ) → (k : ℕ) × (a + k ≡ b) → gap (a * c) (b * c) ≡ gap a b * c
    above a b (k, e) =
        let i : gap a b ≡ k = omega arith in
        let m = ap (λ (x : ℕ). x * c) e in
        rw i (omega arith)

apart-mul : (s : Bool) (a : ℕ) (t : Bool) (b c : ℕ) → apart s (a * c) t (b * c) ≡ apart s a t b * c
apart-mul false a false b c = gap-mul b a c
apart-mul false a true b c = omega arith
apart-mul true a false b c = omega arith
apart-mul true a true b c = gap-mul b a c

-- ---- from num / den to a float of n units, both in units
module _ (s : Bool) (num den L : ℕ) where
  to-units : (y : Float) (t : Bool) (n : ℕ) → HasValue y t n L → distance (ratio s num den) (value_of y) * L ≡ apart s (num * L) t (n * den) * (value_of y).bottom
  to-units nan t n v = absurd v
  to-units (inf u) t n v = absurd v
  to-units (fin u m e) t n v =
      let d = down e in
      let i : num * d * L ≡ num * L * d = omega arith in
      let j : m * up e * den * L ≡ n * den * d = let k = ap (λ (x : ℕ). x * den) v.1 in omega arith in
      ap (λ (x : ℕ). x * L) (distance_is s num den u (m * up e) d)
      ∙ sym (apart-mul s (num * d) u (m * up e * den) L)
      ∙ ap (λ (x : ℕ). apart s x u (m * up e * den * L)) i
      ∙ ap (λ (x : ℕ). apart s (num * L * d) u x) j
      ∙ ap (λ (b : Bool). apart s (num * L * d) b (n * den * d)) v.0
      ∙ apart-mul s (num * L) t (n * den) d

-- two distances over the floats' bottoms c and d, by the same in units
cross_le : (a b c d L p q : ℕ) → 0 < L → a * L ≡ p * c → b * L ≡ q * d → p ≤ q → a * d ≤ b * c
cross_le a b c d L p q P e g h =
    let i = ap (λ (x : ℕ). x * d) e in
    let j = ap (λ (x : ℕ). x * c) g in
    let k = mul-le-mul_right (c * d) h in
    le_of_mul-le-mul_right {k = L} (omega arith) P

cross-eq : (a b c d L p q : ℕ) → 0 < c → 0 < d → a * L ≡ p * c → b * L ≡ q * d → a * d ≡ b * c → p ≡ q
cross-eq a b c d L p q C D e g h =
    let i = ap (λ (x : ℕ). x * d) e in
    let j = ap (λ (x : ℕ). x * c) g in
    let k = ap (λ (x : ℕ). x * L) h in
    eq_of_mul-eq-mul_right (c * d) (mul-pos C D) p q (omega arith)

bottom_pos : (y : Float) → 0 < (value_of y).bottom
bottom_pos nan = omega arith
bottom_pos (inf s) = omega arith
bottom_pos (fin s m e) = down_pos e

module _ (s : Bool) (num den L : ℕ) (y z : Float) (t u : Bool) (n w : ℕ) (Y : HasValue y t n L) (Z : HasValue z u w L) where
  pub no-farther : 0 < L → apart s (num * L) t (n * den) ≤ apart s (num * L) u (w * den) → NoFarther (ratio s num den) (value_of y) (value_of z)
  no-farther P h = cross_le _ _ (value_of y).bottom (value_of z).bottom L _ _ P (to-units s num den L y t n Y) (to-units s num den L z u w Z) h

  pub as_far : AsFar (ratio s num den) (value_of y) (value_of z) → apart s (num * L) t (n * den) ≡ apart s (num * L) u (w * den)
  as_far h = cross-eq _ _ (value_of y).bottom (value_of z).bottom L _ _ (bottom_pos y) (bottom_pos z) (to-units s num den L y t n Y) (to-units s num den L z u w Z) h

-- ---- the nearest by size alone is the nearest, whatever the others' signs are
pub apart-least : (s t : Bool) (x y z : ℕ) → gap y x ≤ gap z x → gap y x ≤ x → apart s x s y ≤ apart s x t z
apart-least false false x y z h k = h
apart-least false true x y z h k = le_trans k (le-add_right x z)
apart-least true false x y z h k = le_trans k (le-add_right x z)
apart-least true true x y z h k = h

-- and one that is as near has the same sign, or is 0
pub apart-tie : (s t : Bool) (x y z : ℕ) → gap y x ≤ x → apart s x s y ≡ apart s x t z → ((t ≡ s) × (gap y x ≡ gap z x)) ⊎ ((z ≡ 0) × (gap y x ≡ x))
apart-tie false false x y z k e = inl (refl, e)
apart-tie false true x y z k e = inr (omega arith, omega arith)
apart-tie true false x y z k e = inr (omega arith, omega arith)
apart-tie true true x y z k e = inl (refl, e)
