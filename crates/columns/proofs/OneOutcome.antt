-- What is said of a call's outcome leaves one outcome: of a call whose result is one list, and of each list of a call that has several. Assumes nothing.
use Prim.Native.Nat.{ℕ}
use mathlib.Core.Path.{◌≡◌}
use mathlib.Core.List.{List}
use lib.Ieee.{Float}
use Rattle.columns.specs.declared.Outcome.{Outcome}
use Rattle.columns.specs.Laying.{LaidPair, LaidList}

pub one-pair : {tests : ℕ} {result : List (Float × Float)} {a b : Outcome} {first_old first_a first_b second_old second_a second_b : List Float}
    → LaidPair tests result a first_old first_a second_old second_a → LaidPair tests result b first_old first_b second_old second_b
    → (a ≡ b) × (first_a ≡ first_b) × (second_a ≡ second_b)
one-pair {a = a} {b = b} x y =
    let same : ◌≡◌ {A = Outcome} (record { number = a.number; count = a.count }) (record { number = b.number; count = b.count }) = cc in
    (same, cc, cc)

-- under one number
pub one_list : {number : ℕ} {result : List (Float × Float)} {count_a count_b : ℕ} {first_old first_a first_b second_old second_a second_b : List Float}
    → LaidList number result count_a first_old first_a second_old second_a → LaidList number result count_b first_old first_b second_old second_b
    → (count_a ≡ count_b) × (first_a ≡ first_b) × (second_a ≡ second_b)
one_list x y = (cc, cc, cc)
