-- A refusal leaves the rooms as they were, and a taken call lays its result over their fronts. Assumes nothing.
use Prim.Native.Nat.{ℕ, ◌≤◌, ◌<◌, min}
use mathlib.Core.Path.{◌≡◌, refl, sym, ◌∙◌}
use mathlib.Core.Bool.{Bool, true, false}
use mathlib.Core.List.{List, [], map}
use lib.Dec.{leb}
use native.Mathlib.Omega.{arith}
use lib.ListN.{length}
use lib.Ieee.{Float}
use borrow.Author.Tests.{eq-eqb, ne_eqb, le-leb, lt-leb, leb-true, leb-false}
use Rattle.picks.specs.Pick.{pick}
use Rattle.order.specs.Order.{laid}
use Rattle.order.specs.Entries.{first, second}
use Rattle.columns.specs.declared.Outcome.{Outcome}
use Rattle.columns.specs.Laying.{room_number, refused_by, given, LaidPair, LaidList}

pub nothing-given : {A : Type 0} (result : List A) (n : ℕ) → (n ≡ 0 → ⊥) → given n result ≡ []
unfolding given
nothing-given result n h = rw (ne_eqb n 0 h)

-- ---- the number, test after test
pub number_of_tests : (tests count room : ℕ) → (tests ≡ 0 → ⊥) → tests ≡ room_number tests count room
unfolding room_number
number_of_tests tests count room h = rw (ne_eqb tests 0 h)

pub number_no_room : (tests count room : ℕ) → tests ≡ 0 → room < count → 7 ≡ room_number tests count room
unfolding room_number
number_no_room tests count room h l = rw (eq-eqb tests 0 h, lt-leb _ _ l)

pub number-taken : (tests count room : ℕ) → tests ≡ 0 → count ≤ room → 0 ≡ room_number tests count room
unfolding room_number
number-taken tests count room h l = rw (eq-eqb tests 0 h, le-leb _ _ l)

-- ---- a call with one list
module _ (tests : ℕ) (result : List (Float × Float)) (first_old second_old : List Float) where
  left_alone : (n : ℕ) → (n ≡ 0 → ⊥) → n ≡ room_number tests (length result) (min (length first_old) (length second_old)) → LaidPair tests result (refused_by n) first_old first_old second_old second_old
  unfolding laid
  left_alone n h e =
      record {
        number = e;
        count = rw (nothing-given result n h);
        first_is = rw (nothing-given result n h);
        second_is = rw (nothing-given result n h);
      }

  -- by the tests before
  pub refused_by_tests : (tests ≡ 0 → ⊥) → LaidPair tests result (refused_by tests) first_old first_old second_old second_old
  refused_by_tests h = left_alone tests h (number_of_tests _ _ _ h)

  -- for want of room
  pub refused_for_room : tests ≡ 0 → min (length first_old) (length second_old) < length result → LaidPair tests result (refused_by 7) first_old first_old second_old second_old
  refused_for_room h l = left_alone 7 (λ e. omega arith) (number_no_room _ _ _ h l)

  pub taken : (count : ℕ) (first_new second_new : List Float) → tests ≡ 0 → length result ≤ min (length first_old) (length second_old) → count ≡ length result
      → first_new ≡ laid (map first result) first_old → second_new ≡ laid (map second result) second_old
      → LaidPair tests result (record { number = 0; count = count }) first_old first_new second_old second_new
  unfolding given
  taken count first_new second_new h l c a b = record { number = number-taken _ _ _ h l; count = c; first_is = a; second_is = b }

-- ---- a list of a call that has several
module _ {result : List (Float × Float)} {first_old second_old : List Float} where
  pub list-refused : {number : ℕ} → (number ≡ 0 → ⊥) → LaidList number result 0 first_old first_old second_old second_old
  unfolding laid
  list-refused {number} h = record { counted = rw (nothing-given result number h); first_is = rw (nothing-given result number h); second_is = rw (nothing-given result number h) }

  module _ {first_new second_new : List Float} where
    pub list-laid : {count : ℕ} → count ≡ length result → first_new ≡ laid (map first result) first_old → second_new ≡ laid (map second result) second_old
        → LaidList 0 result count first_old first_new second_old second_new
    unfolding given
    list-laid c a b = record { counted = c; first_is = a; second_is = b }

    -- what a call with one list has laid
    pub list_of_pair : {tests : ℕ} {outcome : Outcome} → LaidPair tests result outcome first_old first_new second_old second_new → outcome.number ≡ 0
        → LaidList 0 result outcome.count first_old first_new second_old second_new
    unfolding given
    list_of_pair p h = record { counted = rw h at p.count; first_is = rw h at p.first_is; second_is = rw h at p.second_is }

-- ---- what a call with one list tells its caller, where its tests have passed
module _ {result : List (Float × Float)} {outcome : Outcome} {first_old first_new second_old second_new : List Float} (p : LaidPair 0 result outcome first_old first_new second_old second_new) where
  pub pair_fits : outcome.number ≡ 0 → length result ≤ min (length first_old) (length second_old)
  unfolding room_number
  pair_fits h = go (leb (length result) (min (length first_old) (length second_old))) refl (sym p.number ∙ h)
    where
      go : (t : Bool) → leb (length result) (min (length first_old) (length second_old)) ≡ t → ◌≡◌ {A = ℕ} (pick t 0 7) 0 → length result ≤ min (length first_old) (length second_old)
      go true e k = leb-true _ _ e
      go false e k = absurd (omega arith)

  pub pair-short : (outcome.number ≡ 0 → ⊥) → min (length first_old) (length second_old) < length result
  unfolding room_number
  pair-short h = go (leb (length result) (min (length first_old) (length second_old))) refl
    where
      go : (t : Bool) → leb (length result) (min (length first_old) (length second_old)) ≡ t → min (length first_old) (length second_old) < length result
      go true e = absurd (h (p.number ∙ rw e))
      go false e = leb-false _ _ e

  pub pair-untouched : (outcome.number ≡ 0 → ⊥) → (first_new ≡ first_old) × (second_new ≡ second_old)
  unfolding laid
  pair-untouched h = (p.first_is ∙ rw (nothing-given result outcome.number h), p.second_is ∙ rw (nothing-given result outcome.number h))
