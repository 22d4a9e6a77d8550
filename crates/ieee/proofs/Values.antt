-- Finite floats by the numbers that they are (`HasValue`): that they are finite, and so no NaN, their sign, and when two of them differ. Assumes nothing.
use mathlib.Core.Path.{◌≡◌, sym, ap, ◌∙◌, subst}
use mathlib.Core.Logic.{◌⊎◌, ◌≢◌, inl, inr}
use Prim.Native.Nat.{ℕ, ◌*◌, ◌<◌}
use native.Mathlib.Nat.{mul-pos, eq_of_mul-eq-mul_right}
use native.Mathlib.Omega.{arith}
use mathlib.Core.Bool.{Bool, true, false, not, ◌&&◌, ◌||◌, beq}
use lib.Dec.{T, eqb, eqb→eq, not_T}
use lib.Ieee.{Float, nan, inf, fin, up, down, eq, ne, is_nan}
use lib.Ieee.Fits.{eq→eqb, and_l, down_pos}
use lib.Ieee.Exact.{HasValue}
use lib.Ieee.Scale.{finite}
use Rattle.ieee.specs.Nearest.{sign_of}

pub finite_number : (x : Float) → T (finite x) → T (not (is_nan x))
unfolding is_nan
finite_number nan t = t
finite_number (inf s) t = tt
finite_number (fin s m e) t = tt

pub number_of_eq : (x : Float) → eq x x ≡ true → T (not (is_nan x))
unfolding eq is_nan
number_of_eq nan h = subst T (sym h) tt
number_of_eq (inf s) h = tt
number_of_eq (fin s m e) h = tt

pub finite_of : (y : Float) (s : Bool) (n c : ℕ) → HasValue y s n c → T (finite y)
finite_of nan s n c v = absurd v
finite_of (inf t) s n c v = absurd v
finite_of (fin t m e) s n c v = tt

pub sign_of_lem : (x : Float) (s : Bool) (n c : ℕ) → HasValue x s n c → sign_of x ≡ s
sign_of_lem nan s n c v = absurd v
sign_of_lem (inf t) s n c v = absurd v
sign_of_lem (fin t m e) s n c v = v.0

-- by another fraction of the same size
pub rescaled : (x : Float) (s : Bool) (a c b d : ℕ) → 0 < c → b * c ≡ a * d → HasValue x s a c → HasValue x s b d
rescaled nan s a c b d C e v = v
rescaled (inf t) s a c b d C e v = v
rescaled (fin t m k) s a c b d C e v =
    let p = ap (λ (z : ℕ). z * d) v.1 in
    let q = ap (λ (z : ℕ). z * down k) e in
    (v.0, eq_of_mul-eq-mul_right c C (m * up k * d) (b * down k) (omega arith))

-- ---- as `!=` tells them apart
level_not : (x y z : Bool) → T (not (x && (y || z))) → T x → T y ⊎ T z → ⊥
level_not true true z h a b = h
level_not true false true h a b = h
level_not true false false h a (inl b) = b
level_not true false false h a (inr b) = b
level_not false y z h a b = a

alike : (s t : Bool) → t ≡ s → T (beq t s)
alike s t e = subst (λ (b : Bool). T (beq t b)) e (go t)
  where
    go : (t : Bool) → T (beq t t)
    go true = tt
    go false = tt

-- of two that differ as numbers the sizes differ, where the signs are alike or one is 0
pub sizes-differ : (y z : Float) (s t : Bool) (n w c : ℕ) → 0 < c → HasValue y s n c → HasValue z t w c → T (ne z y) → (t ≡ s) ⊎ (w ≡ 0) → w ≢ n
unfolding ne eq
sizes-differ nan z s t n w c C v x d e i = absurd v
sizes-differ (inf u) z s t n w c C v x d e i = absurd v
sizes-differ (fin u m e) nan s t n w c C v x d h i = absurd x
sizes-differ (fin u m e) (inf b) s t n w c C v x d h i = absurd x
sizes-differ (fin u m e) (fin b k l) s t n w c C v x d h i =
    let a = k * up l * down e in
    let g = m * up e * down l in
    let p = ap (λ (z : ℕ). z * down e) x.1 in
    let q = ap (λ (z : ℕ). z * down l) v.1 in
    let r = ap (λ (z : ℕ). z * (down e * down l)) i in
    let same : a ≡ g = eq_of_mul-eq-mul_right c C a g (omega arith) in
    level_not (eqb a g) (beq b u) (eqb a 0) d (eq→eqb same)
    (elim h [
      | inl o ↦ inl (alike u b (x.0 ∙ o ∙ sym v.0))
      | inr o ↦ let z = ap (λ (z : ℕ). z * (down e * down l)) o in inr (eq→eqb (eq_of_mul-eq-mul_right c C a 0 (omega arith)))
    ])

-- two that are not as large differ as numbers
pub differ_by_size : (y z : Float) (s t : Bool) (n w c : ℕ) → HasValue y s n c → HasValue z t w c → w ≢ n → T (ne z y)
unfolding ne eq
differ_by_size nan z s t n w c v x d = absurd v
differ_by_size (inf u) z s t n w c v x d = absurd v
differ_by_size (fin u m e) nan s t n w c v x d = absurd x
differ_by_size (fin u m e) (inf b) s t n w c v x d = absurd x
differ_by_size (fin u m e) (fin b k l) s t n w c v x d =
    let a = k * up l * down e in
    let g = m * up e * down l in
    not_T (eqb a g && _)
    (λ h.
    let p = ap (λ (z : ℕ). z * down e) x.1 in
    let q = ap (λ (z : ℕ). z * down l) v.1 in
    let r = ap (λ (z : ℕ). z * c) (eqb→eq a g (and_l (eqb a g) _ h)) in
    d (eq_of_mul-eq-mul_right (down e * down l) (mul-pos (down_pos e) (down_pos l)) w n (omega arith)))
