-- A result in lent columns: what a call with a number and a count leaves of its rooms. Definitions only.
use Rattle.std.specs.Prelude.{ℕ, min, List, [], map, ◌≡◌, leb, eqb, length, Float}
use Rattle.limits.specs.Table.{no_room}
use Rattle.picks.specs.Pick.{pick}
use Rattle.order.specs.Order.{laid}
use Rattle.order.specs.Entries.{first, second}
use Rattle.columns.specs.declared.Outcome.{Outcome}

-- the call's number: that of the tests before, then 7 where the result is longer than its room
unfoldable pub room_number : ℕ → ℕ → ℕ → ℕ
room_number number count room = pick (eqb number 0) (pick (leb count room) 0 no_room) number

-- the outcome of a refusal
abbrev pub refused_by : ℕ → Outcome
refused_by number = record { number = number; count = 0 }

-- what is written of a result: nothing after a refusal
unfoldable pub given : {A : Type 0} → ℕ → List A → List A
given number result = pick (eqb number 0) result []

-- a column of a result, over the front of its room
abbrev pub column_laid : {A B : Type 0} → (A → B) → ℕ → List A → List B → List B
column_laid field number result old = laid (map field (given number result)) old

-- The one outcome of a call whose result is a list of two columns: the number, the count, and both rooms to their last place.
-- Columns of one list have one room, the shorter.
pub record LaidPair (tests : ℕ) (result : List (Float × Float)) (outcome : Outcome) (first_old first_new second_old second_new : List Float) : Type 0 where
  pub number : outcome.number ≡ room_number tests (length result) (min (length first_old) (length second_old))
  pub count : outcome.count ≡ length (given outcome.number result)
  pub first_is : first_new ≡ column_laid first outcome.number result first_old
  pub second_is : second_new ≡ column_laid second outcome.number result second_old

-- One list of a call that has several, under the call's one number: its count, and both rooms to their last place.
pub record LaidList (number : ℕ) (result : List (Float × Float)) (count : ℕ) (first_old first_new second_old second_new : List Float) : Type 0 where
  pub counted : count ≡ length (given number result)
  pub first_is : first_new ≡ column_laid first number result first_old
  pub second_is : second_new ≡ column_laid second number result second_old

-- A list over the fronts of two rooms, whatever the call's number.
pub record Laid (list : List (Float × Float)) (first_old first_new second_old second_new : List Float) : Type 0 where
  pub first_is : first_new ≡ laid (map first list) first_old
  pub second_is : second_new ≡ laid (map second list) second_old
