-- What the tests inside `le` say of numbers: `ltb a b || (eqb a b && true)` of a ≤ b, and so for two that are negative or of unlike signs. Assumes nothing.
use mathlib.Core.Path.{◌≡◌, sym, ◌∙◌}
use mathlib.Core.Logic.{inl, inr}
use Prim.Native.Nat.{ℕ, ◌+◌, ◌≤◌, ◌<◌}
use native.Mathlib.Nat.{le_of_eq, le_of_lt, eq-or-lt_of_le, eq-zero-or-pos}
use native.Mathlib.Omega.{arith}
use mathlib.Core.Bool.{Bool, true, false, ◌&&◌, ◌||◌}
use lib.Dec.{T, ltb, eqb, ltb→lt, lt→ltb, eqb→eq}
use lib.Ieee.Fits.{eq→eqb}

-- ---- from a test to the order
pub or_eq : (a b : ℕ) (t : Bool) → T (ltb a b || (eqb a b && t)) → a ≤ b
or_eq a b t = go (ltb a b) (eqb a b) (ltb→lt a b) (eqb→eq a b)
  where
    go : (x y : Bool) → (T x → a < b) → (T y → a ≡ b) → T (x || (y && t)) → a ≤ b
    go true y p q h = le_of_lt (p tt)
    go false true p q h = le_of_eq (q tt)
    go false false p q h = absurd h

pub eq_or : (a b : ℕ) (t : Bool) → T (ltb a b || (eqb b a && t)) → a ≤ b
eq_or a b t = go (ltb a b) (eqb b a) (ltb→lt a b) (eqb→eq b a)
  where
    go : (x y : Bool) → (T x → a < b) → (T y → b ≡ a) → T (x || (y && t)) → a ≤ b
    go true y p q h = le_of_lt (p tt)
    go false true p q h = le_of_eq (sym (q tt))
    go false false p q h = absurd h

-- two of unlike signs that are equal
pub zeros : (a b : ℕ) → T (eqb a b && (false || eqb a 0)) → (a ≡ 0) × (b ≡ 0)
zeros a b h = go (eqb a b) (eqb a 0) (eqb→eq a b) (eqb→eq a 0) h
  where
    go : (x y : Bool) → (T x → a ≡ b) → (T y → a ≡ 0) → T (x && (false || y)) → (a ≡ 0) × (b ≡ 0)
    go true true p q h = (q tt, sym (p tt) ∙ q tt)
    go true false p q h = absurd h
    go false y p q h = absurd h

pub or_left : (x y : Bool) → T x → T (x || y)
or_left true y t = tt
or_left false y t = absurd t

or_right : (x y : Bool) → T y → T (x || (y && true))
or_right true y t = tt
or_right false true t = tt
or_right false false t = t

pub or_false : (x : Bool) → T (x || false) → T x
or_false true t = tt
or_false false t = t

-- ---- from the order to a test
module _ (a b : ℕ) where
  pub at_most : a ≤ b → T (ltb a b || (eqb a b && true))
  at_most h = elim (eq-or-lt_of_le h) [ inl e ↦ or_right (ltb a b) (eqb a b) (eq→eqb e) | inr l ↦ or_left (ltb a b) (eqb a b && true) (lt→ltb a b l) ]

  pub at_least : b ≤ a → T (ltb b a || (eqb a b && true))
  at_least h = elim (eq-or-lt_of_le h) [ inl e ↦ or_right (ltb b a) (eqb a b) (eq→eqb (sym e)) | inr l ↦ or_left (ltb b a) (eqb a b && true) (lt→ltb b a l) ]

  pub not_above_lem : T (ltb 0 (a + b) || (eqb a b && (false || eqb a 0)))
  not_above_lem = elim (eq-zero-or-pos (a + b)) [
    | inl e ↦ let x : a ≡ 0 = omega arith in let y : b ≡ 0 = omega arith in rw (x, y) tt
    | inr l ↦ or_left (ltb 0 (a + b)) (eqb a b && (false || eqb a 0)) (lt→ltb 0 (a + b) l)
  ]
