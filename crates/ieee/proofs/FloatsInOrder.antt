-- The tests `<=` and `<` order all floats but NaN, infinities too: `<=` goes on from one to the next, and of `<` one way and `<=` the other just one holds. Assumes nothing.
use Prim.Native.Nat.{ℕ, ◌*◌, ◌≤◌, ◌<◌, zero-le}
use mathlib.Core.Path.{◌≡◌, refl, sym, ap, ◌∙◌, subst}
use mathlib.Core.Logic.{◌⊎◌, inl, inr}
use mathlib.Core.Bool.{Bool, true, false, not}
use native.Mathlib.Omega.{arith}
use native.Mathlib.Nat.{le_trans, le_of_eq, le_of_mul-le-mul_right, mul-le-mul_right, mul_right_comm, zero-mul}
use lib.Dec.{T}
use lib.IntN.{ℤ}
use lib.Ieee.{Float, nan, inf, fin, up, down, is_nan, lt, eq, le}
use lib.Ieee.Fits.{down_pos}
use Rattle.ieee.proofs.SignedSizes.{Ordered, test-ordered, ordered-test}
use Rattle.ieee.proofs.FloatOrder.{lt_or_le, lt_not_le}

-- ---- fractions: a / x up to b / y, and that up to c / z
none : (n k : ℕ) → 0 < k → n * k ≡ 0 → n ≡ 0
none n k K h = let l : n ≤ 0 = le_of_mul-le-mul_right {k = k} (le_trans (le_of_eq h) zero-le) K in omega arith

none_of : (n k : ℕ) → n ≡ 0 → n * k ≡ 0
none_of n k h = ap (λ (m : ℕ). m * k) h ∙ zero-mul k

go_on : (a b c x y z : ℕ) → 0 < y → a * y ≤ b * x → b * z ≤ c * y → a * z ≤ c * x
go_on a b c x y z Y h k =
    le_of_mul-le-mul_right {k = y}
    (le_trans (le_of_eq (mul_right_comm a z y)) (le_trans (mul-le-mul_right z h) (le_trans (le_of_eq (mul_right_comm b x z)) (le_trans (mul-le-mul_right x k) (le_of_eq (mul_right_comm c y x))))))
    Y

module _ (a b c x y z : ℕ) (X : 0 < x) (Y : 0 < y) (Z : 0 < z) where
  ordered-on : (s t u : Bool) → Ordered s (a * y) t (b * x) → Ordered t (b * z) u (c * y) → Ordered s (a * z) u (c * x)
  ordered-on false false false h k = go_on a b c x y z Y h k
  ordered-on false false true h k =
      let b0 = none b z Z k.0 in
      let a0 = none a y Y (let zero = none_of b x b0 in omega arith) in
      (none_of a z a0, none_of c x (none c y Y k.1))
  ordered-on false true false h k = let zero = none_of a z (none a y Y h.0) in omega arith
  ordered-on false true true h k =
      let b0 = none b x X h.1 in
      let c0 = none c y Y (let zero = none_of b z b0 in omega arith) in
      (none_of a z (none a y Y h.0), none_of c x c0)
  ordered-on true false false h k = tt
  ordered-on true false true h k = let zero = none_of c x (none c y Y k.1) in omega arith
  ordered-on true true false h k = tt
  ordered-on true true true h k = go_on c b a z y x Y k h

-- ---- the least and the greatest
least : (x : Float) → T (not (is_nan x)) → T (le (inf true) x)
unfolding le lt eq is_nan
least nan h = absurd h
least (inf true) h = tt
least (inf false) h = tt
least (fin s m e) h = tt

greatest : (x : Float) → T (not (is_nan x)) → T (le x (inf false))
unfolding le lt eq is_nan
greatest nan h = absurd h
greatest (inf true) h = tt
greatest (inf false) h = tt
greatest (fin s m e) h = tt

-- only the least is up to the least, and only the greatest from the greatest on
from-greatest : (x : Float) → T (le (inf false) x) → x ≡ inf false
unfolding le lt eq
from-greatest nan h = absurd h
from-greatest (inf true) h = absurd h
from-greatest (inf false) h = refl
from-greatest (fin s m e) h = absurd h

up_to_least : (x : Float) → T (le x (inf true)) → x ≡ inf true
unfolding le lt eq
up_to_least nan h = absurd h
up_to_least (inf true) h = refl
up_to_least (inf false) h = absurd h
up_to_least (fin s m e) h = absurd h

le_numbers : (x y : Float) → T (le x y) → T (not (is_nan x)) × T (not (is_nan y))
unfolding le lt eq is_nan
le_numbers nan y h = absurd h
le_numbers (inf s) nan h = absurd h
le_numbers (fin s m e) nan h = absurd h
le_numbers (inf s) (inf t) h = (tt, tt)
le_numbers (inf s) (fin t n d) h = (tt, tt)
le_numbers (fin s m e) (inf t) h = (tt, tt)
le_numbers (fin s m e) (fin t n d) h = (tt, tt)

-- ---- floats
-- from an infinity on
from_infinity : (s : Bool) (y z : Float) → T (le (inf s) y) → T (le y z) → T (le (inf s) z)
from_infinity true y z h k = least z (le_numbers y z k).1
from_infinity false y z h k = subst (λ (x : Float). T (le x z)) (from-greatest y h) k

-- up to an infinity
up_to_infinity : (u : Bool) (x y : Float) → T (le x y) → T (le y (inf u)) → T (le x (inf u))
up_to_infinity false x y h k = greatest x (le_numbers x y h).0
up_to_infinity true x y h k = subst (λ (z : Float). T (le x z)) (up_to_least y k) h

through_infinity : (t : Bool) (x z : Float) → T (le x (inf t)) → T (le (inf t) z) → T (le x z)
through_infinity true x z h k = subst (λ (w : Float). T (le w z)) (sym (up_to_least x h)) k
through_infinity false x z h k = subst (λ (w : Float). T (le x w)) (sym (from-greatest z k)) h

pub float_le_trans : (x y z : Float) → T (le x y) → T (le y z) → T (le x z)
unfolding le lt eq
float_le_trans nan y z h k = absurd h
float_le_trans (inf s) y z h k = from_infinity s y z h k
float_le_trans (fin s m e) nan z h k = absurd h
float_le_trans (fin s m e) (inf t) z h k = through_infinity t (fin s m e) z h k
float_le_trans (fin s m e) (fin t n d) nan h k = absurd k
float_le_trans (fin s m e) (fin t n d) (inf u) h k = up_to_infinity u (fin s m e) (fin t n d) h k
float_le_trans (fin s m e) (fin t n d) (fin u l g) h k =
    ordered-test s u (m * up e * down g) (l * up g * down e)
    (ordered-on (m * up e) (n * up d) (l * up g) (down e) (down d) (down g) (down_pos e) (down_pos d) (down_pos g) s t u
    (test-ordered s t (m * up e * down d) (n * up d * down e) h) (test-ordered t u (n * up d * down g) (l * up g * down d) k))

-- of two infinities, and of an infinity and a finite float
infinities : (s t : Bool) → T (lt (inf s) (inf t)) ⊎ T (le (inf t) (inf s))
unfolding le lt eq
infinities true true = inr tt
infinities true false = inl tt
infinities false true = inr tt
infinities false false = inr tt

module _ (s t : Bool) (m : ℕ) (e : ℤ) where
  infinity_first : T (lt (inf s) (fin t m e)) ⊎ T (le (fin t m e) (inf s))
  unfolding le lt eq
  infinity_first = go s
    where
      go : (s : Bool) → T (lt (inf s) (fin t m e)) ⊎ T (le (fin t m e) (inf s))
      go true = inl tt
      go false = inr tt

  infinity_last : T (lt (fin t m e) (inf s)) ⊎ T (le (inf s) (fin t m e))
  unfolding le lt eq
  infinity_last = go s
    where
      go : (s : Bool) → T (lt (fin t m e) (inf s)) ⊎ T (le (inf s) (fin t m e))
      go true = inr tt
      go false = inl tt

pub float_lt_or_le : (x y : Float) → T (not (is_nan x)) → T (not (is_nan y)) → T (lt x y) ⊎ T (le y x)
unfolding is_nan
float_lt_or_le nan y p q = absurd p
float_lt_or_le (inf s) nan p q = absurd q
float_lt_or_le (fin s m e) nan p q = absurd q
float_lt_or_le (inf s) (inf t) p q = infinities s t
float_lt_or_le (inf s) (fin t n d) p q = infinity_first s t n d
float_lt_or_le (fin s m e) (inf t) p q = infinity_last t s m e
float_lt_or_le (fin s m e) (fin t n d) p q = lt_or_le (fin s m e) (fin t n d) tt tt

both-infinite : (s t : Bool) → T (lt (inf s) (inf t)) → T (le (inf t) (inf s)) → ⊥
unfolding le lt eq
both-infinite true true h k = h
both-infinite true false h k = k
both-infinite false t h k = h

one-infinite : (s t : Bool) (m : ℕ) (e : ℤ) → T (lt (inf s) (fin t m e)) → T (le (fin t m e) (inf s)) → ⊥
unfolding le lt eq
one-infinite true t m e h k = k
one-infinite false t m e h k = h

other-infinite : (s t : Bool) (m : ℕ) (e : ℤ) → T (lt (fin t m e) (inf s)) → T (le (inf s) (fin t m e)) → ⊥
unfolding le lt eq
other-infinite true t m e h k = h
other-infinite false t m e h k = k

pub float_lt_not_le : (x y : Float) → T (lt x y) → T (le y x) → ⊥
unfolding lt
float_lt_not_le nan y h k = h
float_lt_not_le (inf s) nan h k = h
float_lt_not_le (fin s m e) nan h k = h
float_lt_not_le (inf s) (inf t) h k = both-infinite s t h k
float_lt_not_le (inf s) (fin t n d) h k = one-infinite s t n d h k
float_lt_not_le (fin s m e) (inf t) h k = other-infinite t s m e h k
float_lt_not_le (fin s m e) (fin t n d) h k = lt_not_le (fin s m e) (fin t n d) tt tt h k
