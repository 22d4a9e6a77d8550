-- The tests `<=` and `<` of two floats: one of `<` one way and `<=` the other holds, and not both; and `<=` by any fractions that the two equal. Assumes nothing.
use mathlib.Core.Path.{◌≡◌, sym, ap, ◌∙◌, subst₂}
use mathlib.Core.Logic.{◌⊎◌, inl, inr}
use mathlib.Core.Bool.{Bool}
use Prim.Native.Nat.{ℕ, ◌*◌, ◌≤◌, ◌<◌, zero-le}
use native.Mathlib.Nat.{le_trans, le_of_eq, le_of_mul-le-mul_right, zero-mul}
use native.Mathlib.Omega.{arith}
use lib.Dec.{T}
use lib.Ieee.{Float, nan, inf, fin, up, down, lt, eq, le}
use lib.Ieee.Fits.{down_pos}
use lib.Ieee.Exact.{HasValue}
use lib.Ieee.Order.{transfer}
use lib.Ieee.Scale.{finite}
use Rattle.ieee.proofs.Tests.{or_left}
use Rattle.ieee.proofs.SignedSizes.{Ordered, ordered-through, test-ordered, ordered-test, below_or, not_both}

pub lt_or_le : (x y : Float) → T (finite x) → T (finite y) → T (lt x y) ⊎ T (le y x)
unfolding lt le
lt_or_le nan y p q = absurd p
lt_or_le (inf s) y p q = absurd p
lt_or_le (fin s m e) nan p q = absurd q
lt_or_le (fin s m e) (inf t) p q = absurd q
lt_or_le (fin s m e) (fin t n d) p q =
    elim (below_or s t (m * up e * down d) (n * up d * down e)) [ inl h ↦ inl h | inr h ↦ inr (ordered-test t s (n * up d * down e) (m * up e * down d) h) ]

pub lt_le : (x y : Float) → T (lt x y) → T (le x y)
unfolding le
lt_le x y h = or_left (lt x y) (eq x y) h

pub lt_not_le : (x y : Float) → T (finite x) → T (finite y) → T (lt x y) → T (le y x) → ⊥
unfolding lt le
lt_not_le nan y p q h k = p
lt_not_le (inf s) y p q h k = p
lt_not_le (fin s m e) nan p q h k = q
lt_not_le (fin s m e) (inf t) p q h k = q
lt_not_le (fin s m e) (fin t n d) p q h k = not_both s t (m * up e * down d) (n * up d * down e) h (test-ordered t s (n * up d * down e) (m * up e * down d) k)

-- ---- by any fractions that the two equal
product-zero : (x k : ℕ) → 0 < k → x * k ≡ 0 → x ≡ 0
product-zero x k K h = let l : x ≤ 0 = le_of_mul-le-mul_right {k = k} (le_trans (le_of_eq h) zero-le) K in omega arith

zero-there : (x de a c dd d : ℕ) → 0 < de → 0 < dd → a * de ≡ x * c → x * dd ≡ 0 → a * d ≡ 0
zero-there x de a c dd d DE DD e h = ap (λ (z : ℕ). z * d) (product-zero a de DE (e ∙ ap (λ (z : ℕ). z * c) (product-zero x dd DD h) ∙ zero-mul c)) ∙ zero-mul d

pub le_sizes : (x y : Float) (s t : Bool) (a c b d : ℕ) → HasValue x s a c → HasValue y t b d → T (le x y) → Ordered s (a * d) t (b * c)
unfolding le
le_sizes nan y s t a c b d v w h = absurd v
le_sizes (inf u) y s t a c b d v w h = absurd v
le_sizes (fin u m e) nan s t a c b d v w h = absurd w
le_sizes (fin u m e) (inf z) s t a c b d v w h = absurd w
le_sizes (fin u m e) (fin z n g) s t a c b d v w h =
    let x = m * up e in
    let y = n * up g in
    ordered-through s t (x * down g) (y * down e) (a * d) (b * c)
    (transfer a b c d x y (down e) (down g) (down_pos e) (down_pos g) (sym v.1) (sym w.1))
    (transfer b a d c y x (down g) (down e) (down_pos g) (down_pos e) (sym w.1) (sym v.1))
    (zero-there x (down e) a c (down g) d (down_pos e) (down_pos g) (sym v.1))
    (zero-there y (down g) b d (down e) c (down_pos g) (down_pos e) (sym w.1))
    (subst₂ (λ (p q : Bool). Ordered p (x * down g) q (y * down e)) v.0 w.0 (test-ordered u z (x * down g) (y * down e) h))

pub sizes_le : (x y : Float) (s t : Bool) (a c b d : ℕ) → 0 < c → 0 < d → HasValue x s a c → HasValue y t b d → Ordered s (a * d) t (b * c) → T (le x y)
unfolding le
sizes_le nan y s t a c b d C D v w h = absurd v
sizes_le (inf u) y s t a c b d C D v w h = absurd v
sizes_le (fin u m e) nan s t a c b d C D v w h = absurd w
sizes_le (fin u m e) (inf z) s t a c b d C D v w h = absurd w
sizes_le (fin u m e) (fin z n g) s t a c b d C D v w h =
    let x = m * up e in
    let y = n * up g in
    ordered-test u z (x * down g) (y * down e)
    (subst₂ (λ (p q : Bool). Ordered p (x * down g) q (y * down e)) (sym v.0) (sym w.0)
    (ordered-through s t (a * d) (b * c) (x * down g) (y * down e)
    (transfer x y (down e) (down g) a b c d C D v.1 w.1)
    (transfer y x (down g) (down e) b a d c D C w.1 v.1)
    (zero-there a c x (down e) d (down g) C D v.1)
    (zero-there b d y (down g) c (down e) D C w.1)
    h))
