-- Where the lower of two numbers is no refusal, neither is one; and beside no refusal the lower one is the other. Assumes nothing.
use Prim.Native.Nat.{ℕ}
use mathlib.Core.Path.{◌≡◌, refl, sym}
use mathlib.Core.Bool.{Bool, true, false}
use lib.Dec.{leb, eqb}
use borrow.Author.Tests.{eqb-true, eqb-false}
use Rattle.picks.specs.Pick.{pick}
use Rattle.limits.specs.Refusals.{lower}

pub lower-none : (one other : ℕ) → lower one other ≡ 0 → (one ≡ 0) × (other ≡ 0)
unfolding lower
lower-none one other h = go (eqb one 0) (eqb other 0) (leb one other) (eqb-true one 0) (eqb-true other 0) (eqb-false one 0) (eqb-false other 0) h
  where
    go : (a b c : Bool) → (a ≡ true → one ≡ 0) → (b ≡ true → other ≡ 0) → (a ≡ false → one ≡ 0 → ⊥) → (b ≡ false → other ≡ 0 → ⊥)
        → pick a other (pick b one (pick c one other)) ≡ 0 → (one ≡ 0) × (other ≡ 0)
    go true b c p q r s h = (p refl, h)
    go false true c p q r s h = absurd (r refl h)
    go false false true p q r s h = absurd (r refl h)
    go false false false p q r s h = absurd (s refl h)

pub none-lower : (other : ℕ) → lower 0 other ≡ other
unfolding lower
none-lower other = refl

pub lower_than_none : (one : ℕ) → lower one 0 ≡ one
unfolding lower
lower_than_none one = go (eqb one 0) (eqb-true one 0)
  where
    go : (a : Bool) → (a ≡ true → one ≡ 0) → pick a 0 one ≡ one
    go true h = sym (h refl)
    go false h = refl
