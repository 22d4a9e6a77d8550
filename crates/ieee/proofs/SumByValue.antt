-- What is made of two floats, by fractions over one bottom that they equal, over the format: their sum, of whatever signs, their difference, and which is less. Assumes nothing.
use mathlib.Core.Path.{◌≡◌, refl, sym, ap, ap₂, ◌∙◌}
use mathlib.Core.Logic.{inl, inr}
use Prim.Native.Nat.{ℕ, ◌+◌, ◌-◌, ◌*◌, ◌≤◌, ◌<◌}
use native.Mathlib.Nat.{le_trans, le_of_eq, lt_of_lt_of_le, lt_of_le_of_lt, le_of_mul-le-mul_right, lt_of_mul-lt-mul_right, mul-le-mul_right, mul-lt-mul_of_pos_right, mul-pos, mul_comm, add-mul, mul-sub}
use native.Mathlib.Omega.{arith}
use mathlib.Core.Bool.{Bool, true, false, not, ◌&&◌}
use lib.Dec.{ltb}
use lib.Ieee.{Float, nan, inf, fin, Format, up, down, round, neg, sum, add, sub, below, lt}
use lib.Ieee.Exact.{HasValue}
use lib.Ieee.Fits.{down_pos}
use lib.Ieee.Scale.{round_same}
use borrow.Author.Tests.{lt-ltb, le-ltb}
use Rattle.ieee.proofs.Closest.{lt_or_ge}

pub sub-mul : (m n k : ℕ) → (m - n) * k ≡ m * k - n * k
sub-mul m n k = mul_comm (m - n) k ∙ mul-sub k m n ∙ ap₂ ◌-◌ (mul_comm k m) (mul_comm k n)

-- ---- a' / c' and b' / c' are a / c and b / c
module _ (a b c a' b' c' : ℕ) (C : 0 < c) (C' : 0 < c') (p : a' * c ≡ a * c') (q : b' * c ≡ b * c') where
  ltb_same : ltb a' b' ≡ ltb a b
  ltb_same = elim (lt_or_ge a' b') [
    | inl l ↦ lt-ltb a' b' l ∙ sym (lt-ltb a b (lt_of_mul-lt-mul_right c' (lt_of_le_of_lt (le_of_eq (sym p)) (lt_of_lt_of_le (mul-lt-mul_of_pos_right l C) (le_of_eq q)))))
    | inr l ↦ le-ltb a' b' l ∙ sym (le-ltb a b (le_of_mul-le-mul_right (le_trans (le_of_eq (sym q)) (le_trans (mul-le-mul_right c l) (le_of_eq p))) C'))
  ]

  plus : (a' + b') * c ≡ (a + b) * c'
  plus = add-mul a' b' c ∙ ap₂ ◌+◌ p q ∙ sym (add-mul a b c')

  minus : (b' - a') * c ≡ (b - a) * c'
  minus = sub-mul b' a' c ∙ ap₂ ◌-◌ q p ∙ sym (sub-mul b a c')

-- equal fractions have the same sum
pub sum_same : (f : Format) (s t : Bool) (a b c a' b' c' : ℕ) → 0 < c → 0 < c' → a' * c ≡ a * c' → b' * c ≡ b * c' → sum f s a' t b' c' ≡ sum f s a t b c
unfolding sum
sum_same f s t a b c a' b' c' C C' p q =
    rw (
      round_same f s (a' + b') c' (a + b) c C' C (plus a b c a' b' c' C C' p q),
      round_same f t (b' - a') c' (b - a) c C' C (minus a b c a' b' c' C C' p q),
      ltb_same a b c a' b' c' C C' p q,
      ltb_same b a c b' a' c' C C' q p,
      round_same f (s && ltb b a) (a' - b') c' (a - b) c C' C (minus b a c b' a' c' C C' q p),
    ) refl

-- ---- two floats over one bottom
cross : (m u c a d e : ℕ) → m * u * c ≡ a * e → m * u * d * c ≡ a * (e * d)
cross m u c a d e h = let k = ap (λ (x : ℕ). x * d) h in omega arith

cross' : (m u c a d e : ℕ) → m * u * c ≡ a * e → m * u * d * c ≡ a * (d * e)
cross' m u c a d e h = let k = ap (λ (x : ℕ). x * d) h in omega arith

pub add-values : (f : Format) (x y : Float) (s t : Bool) (a b c : ℕ) → 0 < c → HasValue x s a c → HasValue y t b c → add f x y ≡ sum f s a t b c
unfolding add
add-values f nan y s t a b c C v w = absurd v
add-values f (inf u) y s t a b c C v w = absurd v
add-values f (fin u m e) nan s t a b c C v w = absurd w
add-values f (fin u m e) (inf z) s t a b c C v w = absurd w
add-values f (fin u m e) (fin z n d) s t a b c C v w =
    ap₂ (λ (i j : Bool). sum f i (m * up e * down d) j (n * up d * down e) (down e * down d)) v.0 w.0
    ∙ sum_same f s t a b c (m * up e * down d) (n * up d * down e) (down e * down d) C (mul-pos (down_pos e) (down_pos d)) (cross m (up e) c a (down d) (down e) v.1) (cross' n (up d) c b (down e) (down d) w.1)

-- of which neither is negative
pub plus-values : (f : Format) (x y : Float) (a b c : ℕ) → 0 < c → HasValue x false a c → HasValue y false b c → add f x y ≡ round f false (a + b) c
unfolding sum
plus-values f x y a b c C v w = add-values f x y false false a b c C v w

neg_value : (y : Float) (b c : ℕ) → HasValue y false b c → HasValue (neg y) true b c
unfolding neg
neg_value nan b c v = v
neg_value (inf z) b c v = v
neg_value (fin z n d) b c v = (ap not v.0, v.1)

pub minus-values : (f : Format) (x y : Float) (a b c : ℕ) → 0 < c → b ≤ a → HasValue x false a c → HasValue y false b c → sub f x y ≡ round f false (a - b) c
unfolding sub sum
minus-values f x y a b c C l v w = add-values f x (neg y) false true a b c C v (neg_value y b c w) ∙ rw (le-ltb a b l) refl

pub minus-less : (f : Format) (x y : Float) (a b c : ℕ) → 0 < c → a < b → HasValue x false a c → HasValue y false b c → sub f x y ≡ round f true (b - a) c
unfolding sub sum
minus-less f x y a b c C l v w = add-values f x (neg y) false true a b c C v (neg_value y b c w) ∙ rw (lt-ltb a b l) refl

pub lt-values : (x y : Float) (a b c : ℕ) → 0 < c → HasValue x false a c → HasValue y false b c → lt x y ≡ ltb a b
unfolding lt
lt-values nan y a b c C v w = absurd v
lt-values (inf u) y a b c C v w = absurd v
lt-values (fin u m e) nan a b c C v w = absurd w
lt-values (fin u m e) (inf z) a b c C v w = absurd w
lt-values (fin u m e) (fin z n d) a b c C v w =
    ap₂ (λ (i j : Bool). below i (m * up e * down d) j (n * up d * down e)) v.0 w.0
    ∙ ltb_same a b c (m * up e * down d) (n * up d * down e) (down e * down d) C (mul-pos (down_pos e) (down_pos d)) (cross m (up e) c a (down d) (down e) v.1) (cross' n (up d) c b (down e) (down d) w.1)
