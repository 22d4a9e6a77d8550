-- The answer that a test picks, by the fact which that branch of the code hands over: `search picks`, or `search flags` where a test is a bool. Assumes nothing.
use Prim.Native.Nat.{ℕ, ◌≤◌, ◌<◌}
use mathlib.Core.Path.{◌≡◌}
use mathlib.Core.Bool.{Bool, true, false}
use lib.Dec.{ltb, leb, eqb}
use borrow.Author.Tests.{lt-ltb, le-ltb, le-leb, lt-leb, eq-eqb, ne_eqb, not-true, not-false}
use Rattle.picks.specs.Pick.{pick}

module _ {A : Type 0} (x y z : A) where
  pub pick_true : (t : Bool) → t ≡ true → x ≡ y → x ≡ pick t y z
  pick_true t h e = rw h e

  pub pick_false : (t : Bool) → t ≡ false → x ≡ z → x ≡ pick t y z
  pick_false t h e = rw h e

  pub pick_lt : (a b : ℕ) → a < b → x ≡ y → x ≡ pick (ltb a b) y z
  pick_lt a b h e = rw (lt-ltb a b h) e

  pub pick_ge : (a b : ℕ) → b ≤ a → x ≡ z → x ≡ pick (ltb a b) y z
  pick_ge a b h e = rw (le-ltb a b h) e

  pub pick_le : (a b : ℕ) → a ≤ b → x ≡ y → x ≡ pick (leb a b) y z
  pick_le a b h e = rw (le-leb a b h) e

  pub pick_gt : (a b : ℕ) → b < a → x ≡ z → x ≡ pick (leb a b) y z
  pick_gt a b h e = rw (lt-leb a b h) e

  pub pick_eq : (a b : ℕ) → a ≡ b → x ≡ y → x ≡ pick (eqb a b) y z
  pick_eq a b h e = rw (eq-eqb a b h) e

  pub pick_ne : (a b : ℕ) → (a ≡ b → ⊥) → x ≡ z → x ≡ pick (eqb a b) y z
  pick_ne a b h e = rw (ne_eqb a b h) e

pub ruleset picks = (pick_lt, pick_ge, pick_le, pick_gt, pick_eq, pick_ne)

pub ruleset flags = (picks, pick_true, pick_false, not-true, not-false)
