-- Numbers of either sign by their sizes. The order ±a ≤ ±b is that of whole numbers and that which the tests of floats make, and any map of sizes that keeps their order and leaves 0 keeps it. Assumes nothing.
use mathlib.Core.Path.{◌≡◌, refl}
use mathlib.Core.Logic.{◌⊎◌, inl, inr}
use mathlib.Core.Bool.{Bool, true, false, not, ◌||◌}
use Prim.Native.Nat.{ℕ, zero, suc, ◌+◌, ◌≤◌, zero-le}
use native.Mathlib.Nat.{le_refl, le-suc}
use native.Mathlib.Omega.{arith}
use lib.IntN.{ℤ, pos, negsuc, nat_abs}
use lib.Signed.{le_z, mag}
use lib.Dec.{T, ltb, ltb→lt, nltb→le, leb→le, le→leb}
use lib.Ieee.{below, level}
use Rattle.ieee.specs.Rounding.{signed}
use Rattle.ieee.proofs.Tests.{or_eq, eq_or, zeros, at_most, at_least, not_above_lem}

-- ---- a whole number as its sign and its size
abbrev pub negative : ℤ → Bool
negative (pos n) = false
negative (negsuc n) = true

pub signed_is : (z : ℤ) → signed (negative z) (nat_abs z) ≡ z
signed_is (pos n) = refl
signed_is (negsuc n) = refl

pub nat_abs_signed : (s : Bool) (n : ℕ) → nat_abs (signed s n) ≡ n
nat_abs_signed false n = refl
nat_abs_signed true zero = refl
nat_abs_signed true (suc n) = refl

pub mag_signed : (s : Bool) (n : ℕ) → mag (signed s n) ≤ n
mag_signed false n = le_refl n
mag_signed true zero = zero-le
mag_signed true (suc n) = le-suc n

-- ---- ±a ≤ ±b, negative where the sign is true
abbrev pub Ordered : Bool → ℕ → Bool → ℕ → Type 0
Ordered false a false b = a ≤ b
Ordered false a true b = (a ≡ 0) × (b ≡ 0)
Ordered true a false b = Unit {0}
Ordered true a true b = b ≤ a

pub ordered-through : (s t : Bool) (a b c d : ℕ) → (a ≤ b → c ≤ d) → (b ≤ a → d ≤ c) → (a ≡ 0 → c ≡ 0) → (b ≡ 0 → d ≡ 0) → Ordered s a t b → Ordered s c t d
ordered-through false false a b c d up_to_lem back z w h = up_to_lem h
ordered-through false true a b c d up_to_lem back z w h = (z h.0, w h.1)
ordered-through true false a b c d up_to_lem back z w h = tt
ordered-through true true a b c d up_to_lem back z w h = back h

pub ordered-turned : (s t : Bool) (a b : ℕ) → Ordered t b s a → Ordered (not s) a (not t) b
ordered-turned false false a b h = h
ordered-turned false true a b h = tt
ordered-turned true false a b h = (h.1, h.0)
ordered-turned true true a b h = h

-- ---- of whole numbers
pub ordered-whole : (s t : Bool) (a b : ℕ) → Ordered s a t b → T (le_z (signed s a) (signed t b))
ordered-whole false false a b h = le→leb a b h
ordered-whole false true a b h = rw (h.0, h.1) tt
ordered-whole true false zero b h = le→leb 0 b zero-le
ordered-whole true false (suc a) b h = tt
ordered-whole true true zero zero h = tt
ordered-whole true true (suc a) zero h = tt
ordered-whole true true zero (suc b) h = absurd (omega arith)
ordered-whole true true (suc a) (suc b) h = le→leb b a (omega arith)

pub whole-ordered : (s t : Bool) (a b : ℕ) → T (le_z (signed s a) (signed t b)) → Ordered s a t b
whole-ordered false false a b h = leb→le a b h
whole-ordered false true a zero h = let l = leb→le a 0 h in (omega arith, refl)
whole-ordered false true a (suc b) h = absurd h
whole-ordered true false a b h = tt
whole-ordered true true zero zero h = zero-le
whole-ordered true true zero (suc b) h = absurd h
whole-ordered true true (suc a) zero h = zero-le
whole-ordered true true (suc a) (suc b) h = let l = leb→le b a h in omega arith

-- ---- of floats: `below` and `level` are what the tests come to
pub test-ordered : (s t : Bool) (a b : ℕ) → T (below s a t b || level s a t b) → Ordered s a t b
test-ordered false false a b h = or_eq a b true h
test-ordered false true a b h = zeros a b h
test-ordered true false a b h = tt
test-ordered true true a b h = eq_or b a true h

pub ordered-test : (s t : Bool) (a b : ℕ) → Ordered s a t b → T (below s a t b || level s a t b)
ordered-test false false a b h = at_most a b h
ordered-test false true a b h = rw (h.0, h.1) tt
ordered-test true false a b h = not_above_lem a b
ordered-test true true a b h = at_least a b h

-- below one way, or ordered the other, and not both
ltb_or : (a b : ℕ) → T (ltb a b) ⊎ (b ≤ a)
ltb_or a b = go (ltb a b) (nltb→le a b)
  where
    go : (t : Bool) → (T (not t) → b ≤ a) → T t ⊎ (b ≤ a)
    go true h = inl tt
    go false h = inr (h tt)

pub below_or : (s t : Bool) (a b : ℕ) → T (below s a t b) ⊎ Ordered t b s a
below_or false false a b = ltb_or a b
below_or false true a b = inr tt
below_or true false a b = elim (ltb_or 0 (a + b)) [ inl h ↦ inl h | inr h ↦ inr (omega arith, omega arith) ]
below_or true true a b = ltb_or b a

pub not_both : (s t : Bool) (a b : ℕ) → T (below s a t b) → Ordered t b s a → ⊥
not_both false false a b h k = let l = ltb→lt a b h in omega arith
not_both false true a b h k = h
not_both true false a b h k = let l = ltb→lt 0 (a + b) h in omega arith
not_both true true a b h k = let l = ltb→lt b a h in omega arith
