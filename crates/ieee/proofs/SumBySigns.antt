-- A sum of two fractions ±a / c and ±b / c, over the format: it is the exact sum, rounded once; so it keeps the order of exact sums; its sign and its size; and what it is where nothing is left. Assumes nothing.
use mathlib.Core.Path.{◌≡◌, refl, sym, ap, ◌∙◌, subst₂}
use mathlib.Core.Logic.{inl, inr}
use Prim.Native.Nat.{ℕ, zero, suc, ◌+◌, ◌-◌, ◌≤◌, ◌<◌, zero-le}
use native.Mathlib.Omega.{arith}
use mathlib.Core.Bool.{Bool, true, false, not, ◌&&◌, beq, cond}
use lib.IntN.{ℤ, pos, neg_ℤ, nat_abs, sub_ℕ, ◌+ℤ◌, ◌*ℤ◌}
use lib.Signed.{◌≤ℤ◌}
use lib.Dec.{T, ltb}
use lib.Ieee.{Float, fin, Format, round, sum, le}
use borrow.Author.Tests.{lt-ltb, le-ltb}
use Rattle.ieee.specs.Rounding.{signed}
use Rattle.ieee.specs.Constants.{plus_zero}
use Rattle.ieee.specs.inside.SumSize.{sum_size}
use Rattle.ieee.proofs.Closest.{lt_or_ge}
use Rattle.ieee.proofs.Distance.{abs_sub, signed_mul}
use Rattle.ieee.proofs.SignedSizes.{nat_abs_signed}
use Rattle.ieee.proofs.KeepsOrder.{round-zero, round_keeps_order}

-- ---- a difference of whole numbers by its sign and its size
difference : (a b : ℕ) → b ≤ a → sub_ℕ a b ≡ pos (a - b)
difference a b l = rw (le-ltb a b l) refl

difference_below : (a b : ℕ) → a < b → sub_ℕ a b ≡ signed true (b - a)
difference_below a b l = let e : suc (b - suc a) ≡ b - a = omega arith in rw (lt-ltb a b l) (ap (λ (x : ℕ). neg_ℤ (pos x)) e)

minus-first : (a b : ℕ) → signed true a +ℤ signed false b ≡ sub_ℕ b a
minus-first zero b = sym (difference b 0 zero-le ∙ ap pos (omega arith))
minus-first (suc a) b = refl

minus-second : (a b : ℕ) → signed false a +ℤ signed true b ≡ sub_ℕ a b
minus-second a zero = sym (difference a 0 zero-le ∙ ap pos (omega arith))
minus-second a (suc b) = refl

minus-both : (a b : ℕ) → signed true a +ℤ signed true b ≡ signed true (a + b)
minus-both zero zero = refl
minus-both zero (suc b) = let e : suc b - 0 ≡ 0 + suc b = omega arith in difference_below 0 (suc b) (omega arith) ∙ ap (signed true) e
minus-both (suc a) zero = let e : suc a - 0 ≡ suc a + 0 = omega arith in difference_below 0 (suc a) (omega arith) ∙ ap (signed true) e
minus-both (suc a) (suc b) = let e : suc (suc (a + b)) ≡ suc a + suc b = omega arith in ap (signed true) e

-- the size of a sum of whole numbers
size_of_sum : (s t : Bool) (a b : ℕ) → nat_abs (signed s a +ℤ signed t b) ≡ sum_size (beq s t) a b
size_of_sum false false a b = refl
size_of_sum true true a b = ap nat_abs (minus-both a b) ∙ nat_abs_signed true (a + b)
size_of_sum true false a b = ap nat_abs (minus-first a b) ∙ abs_sub b a
size_of_sum false true a b = ap nat_abs (minus-second a b) ∙ abs_sub a b ∙ omega arith

module _ (f : Format) where
  -- ---- a sum is the exact sum, rounded: n with the sign v is the sum of the two tops
  abbrev pub RoundsTo : ℤ → ℕ → Float → Type 0
  RoundsTo z c y = (v : Bool) × (n : ℕ) × (y ≡ round f v n c) × (signed v n ≡ z)

  pub sum-rounds : (s t : Bool) (a b c : ℕ) → RoundsTo (signed s a +ℤ signed t b) c (sum f s a t b c)
  unfolding sum
  sum-rounds false false a b c = (false, a + b, refl, refl)
  sum-rounds true true a b c = (true, a + b, refl, sym (minus-both a b))
  sum-rounds true false a b c = elim (lt_or_ge a b) [
    | inl l ↦ (false, b - a, rw (lt-ltb a b l) refl, sym (minus-first a b ∙ difference b a (omega arith)))
    | inr l ↦ (
      ltb b a,
      a - b,
      rw (le-ltb a b l) refl,
      elim (lt_or_ge b a) [
        | inl g ↦ rw (lt-ltb b a g) (sym (minus-first a b ∙ difference_below b a g))
        | inr g ↦ rw (le-ltb b a g) (ap pos (omega arith) ∙ sym (minus-first a b ∙ difference b a g))
      ],
    )
  ]
  sum-rounds false true a b c = elim (lt_or_ge a b) [
    | inl l ↦ (true, b - a, rw (lt-ltb a b l) refl, sym (minus-second a b ∙ difference_below a b l))
    | inr l ↦ (false, a - b, rw (le-ltb a b l) refl, sym (minus-second a b ∙ difference a b l))
  ]

  -- ---- what is rounded keeps the order of what it is rounded from
  pub rounded_keeps_order : (z w : ℤ) (c d : ℕ) (x y : Float) → 0 < c → 0 < d → RoundsTo z c x → RoundsTo w d y → (z *ℤ pos d) ≤ℤ (w *ℤ pos c) → T (le x y)
  rounded_keeps_order z w c d x y C D h k l =
      let i = ap (λ (u : ℤ). u *ℤ pos d) (sym h.3) ∙ signed_mul h.0 h.1 d in
      let j = ap (λ (u : ℤ). u *ℤ pos c) (sym k.3) ∙ signed_mul k.0 k.1 c in
      subst₂ (λ (p q : Float). T (le p q)) (sym h.2) (sym k.2) (round_keeps_order f h.0 k.0 h.1 c k.1 d C D (subst₂ (λ (p q : ℤ). p ≤ℤ q) i j l))

  -- ---- the sign and the size of a sum that is not 0
  pub sum-signed : (s t : Bool) (a b c : ℕ) → 0 < sum_size (beq s t) a b → sum f s a t b c ≡ round f (cond (not (beq s t) && ltb a b) t s) (sum_size (beq s t) a b) c
  unfolding sum
  sum-signed true true a b c J = refl
  sum-signed false false a b c J = refl
  sum-signed true false a b c J = elim (lt_or_ge a b) [
    | inl l ↦ rw (lt-ltb a b l) (ap (λ (n : ℕ). round f false n c) (omega arith))
    | inr l ↦ rw (le-ltb a b l, lt-ltb b a (omega arith)) (ap (λ (n : ℕ). round f true n c) (omega arith))
  ]
  sum-signed false true a b c J = elim (lt_or_ge a b) [
    | inl l ↦ rw (lt-ltb a b l) (ap (λ (n : ℕ). round f true n c) (omega arith))
    | inr l ↦ rw (le-ltb a b l) (ap (λ (n : ℕ). round f false n c) (omega arith))
  ]

  -- ---- a sum of which nothing is left: -0 where both are negative, and +0 otherwise
  pub sum-zero : (s t : Bool) (a b c : ℕ) → 0 < c → sum_size (beq s t) a b ≡ 0 → sum f s a t b c ≡ fin (s && t) 0 (pos 0)
  unfolding sum
  sum-zero true true a b c C J = round-zero f true (a + b) c C J
  sum-zero false false a b c C J = round-zero f false (a + b) c C J
  sum-zero true false a b c C J = rw (le-ltb a b (omega arith), le-ltb b a (omega arith)) (round-zero f false (a - b) c C (omega arith))
  sum-zero false true a b c C J = rw (le-ltb a b (omega arith)) (round-zero f false (a - b) c C (omega arith))

  pub exact_zero_sum : (s t : Bool) (a b c : ℕ) → 0 < c → signed s a +ℤ signed t b ≡ pos 0 → sum f s a t b c ≡ fin (s && t) 0 (pos 0)
  exact_zero_sum s t a b c C e = sum-zero s t a b c C (sym (size_of_sum s t a b) ∙ ap nat_abs e)

  -- what cancelled is +0
  pub sum_cancelled : (s t : Bool) (a b c : ℕ) → 0 < c → 0 < a → sum_size (beq s t) a b ≡ 0 → sum f s a t b c ≡ plus_zero
  sum_cancelled true true a b c C A J = absurd (omega arith)
  sum_cancelled false false a b c C A J = absurd (omega arith)
  sum_cancelled true false a b c C A J = sum-zero true false a b c C J
  sum_cancelled false true a b c C A J = sum-zero false true a b c C J
