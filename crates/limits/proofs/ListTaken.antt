-- A list is taken exactly when it is short, its columns are of one length, and every number of it is in its range. Assumes nothing.
use Prim.Native.Nat.{ℕ, ◌≤◌}
use mathlib.Core.Path.{◌≡◌, refl}
use mathlib.Core.Bool.{Bool, true, false}
use mathlib.Core.List.{List}
use native.Mathlib.Omega.{arith}
use lib.Dec.{ltb, eqb}
use lib.ListN.{length}
use lib.Ieee.{Float}
use borrow.Author.Tests.{ltb-false, eqb-true, le-ltb, eq-eqb}
use Rattle.picks.specs.Pick.{pick}
use Rattle.limits.specs.declared.Range.{Range}
use Rattle.limits.specs.Numbers.{all_in}
use Rattle.limits.specs.Refusals.{list_number}

pub record Taken (beat value : Range) (beats values : List Float) : Type 0 where
  pub few : length beats ≤ 1024
  pub even : length beats ≡ length values
  pub beats_in : all_in beat beats ≡ true
  pub values_in : all_in value values ≡ true

-- what 0 says of each test
passed : (long longer even beats values : Bool) → ◌≡◌ {A = ℕ} (pick long 1 (pick longer 1 (pick even (pick beats (pick values 0 4) 3) 2))) 0 → (long ≡ false) × (even ≡ true) × (beats ≡ true) × (values ≡ true)
passed false false true true true h = (refl, refl, refl, refl)
passed true longer even beats values h = absurd (omega arith)
passed false true even beats values h = absurd (omega arith)
passed false false false beats values h = absurd (omega arith)
passed false false true false values h = absurd (omega arith)
passed false false true true false h = absurd (omega arith)

pub list-taken : {beat value : Range} {beats values : List Float} → list_number beat value beats values ≡ 0 → Taken beat value beats values
unfolding list_number
list-taken {beat} {value} {beats} {values} h =
    let p = passed (ltb 1024 (length beats)) (ltb 1024 (length values)) (eqb (length beats) (length values)) (all_in beat beats) (all_in value values) h in
    record { few = ltb-false 1024 (length beats) p.0; even = eqb-true (length beats) (length values) p.1; beats_in = p.2; values_in = p.3 }

pub list-passes : (beat value : Range) (beats values : List Float) → length beats ≤ 1024 → length beats ≡ length values → all_in beat beats ≡ true → all_in value values ≡ true → list_number beat value beats values ≡ 0
unfolding list_number
list-passes beat value beats values few even b v = rw (le-ltb 1024 (length beats) few, le-ltb 1024 (length values) (omega arith), eq-eqb (length beats) (length values) even, b, v)
