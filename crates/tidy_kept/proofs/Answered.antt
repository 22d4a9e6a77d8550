-- What is answered and kept, by the tests before and by the way that a list goes. Assumes nothing.
use Prim.Native.Nat.{ℕ, ◌≤◌}
use mathlib.Core.Path.{◌≡◌, refl}
use mathlib.Core.Bool.{Bool, true, false}
use mathlib.Core.List.{List, [], reverse}
use mathlib.Core.Logic.{◌⊎◌, inl, inr}
use lib.ListN.{length}
use borrow.Author.Tests.{ne_eqb, le-leb, le-ltb}
use Rattle.picks.specs.Pick.{pick}
use Rattle.limits.specs.Refusals.{lower}
use Rattle.order.specs.Order.{run, never_falls}
use Rattle.tidy_kept.specs.Keeping.{row_of, keep, placed, falls_while, kept_of, keep_number, placing_number}

lower-first : (one other : ℕ) → (one ≡ 0 → ⊥) → one ≤ 6 → (other ≡ 0) ⊎ (other ≡ 6) → lower one other ≡ one
unfolding lower
lower-first one other h few (inl e) = rw (ne_eqb one 0 h, e)
lower-first one other h few (inr e) = rw (ne_eqb one 0 h, e, le-leb one 6 few)

none_or_six : (ordered falls : Bool) → (pick {A = ℕ} ordered 0 (pick falls 6 0) ≡ 0) ⊎ (pick {A = ℕ} ordered 0 (pick falls 6 0) ≡ 6)
none_or_six true falls = inl refl
none_or_six false true = inr refl
none_or_six false false = inl refl

module _ {B W : Type 0} (row : B → ℕ) (near : W → W → Bool) (list : List (B × W)) where
  -- a refusal of the tests before comes first
  pub tests-first : (tests : ℕ) → (tests ≡ 0 → ⊥) → tests ≤ 6 → lower tests (keep_number row near list) ≡ tests
  unfolding keep_number
  tests-first tests h few = lower-first tests (keep_number row near list) h few (none_or_six (never_falls (row_of row near) list) (falls_while row near [] list))

  module _ (tests : ℕ) (none : tests ≡ 0) where
    module _ (ordered : never_falls (row_of row near) list ≡ true) where
      pub ordered-number : lower tests (keep_number row near list) ≡ 0
      unfolding lower keep_number
      ordered-number = rw (none, ordered)

      pub ordered-list : kept_of row near list ≡ reverse (run (keep row near) [] list)
      unfolding kept_of
      ordered-list = rw ordered

    module _ (unordered : never_falls (row_of row near) list ≡ false) where
      pub placed-number : length list ≤ 1024 → lower tests (keep_number row near list) ≡ placing_number row near list
      unfolding lower keep_number placing_number
      placed-number few = rw (none, unordered, le-ltb 1024 (length list) few)

      pub placed-list : kept_of row near list ≡ run (placed row near) [] list
      unfolding kept_of
      placed-list = rw unordered
