-- A list of speeds that is taken is short, its columns are of one length, and its beats are in their range. Assumes nothing.
use Prim.Native.Nat.{ℕ, ◌≤◌}
use mathlib.Core.Path.{◌≡◌, refl}
use mathlib.Core.Bool.{Bool, true, false}
use mathlib.Core.List.{List}
use native.Mathlib.Omega.{arith}
use borrow.Author.Tests.{ltb-false, eqb-true}
use lib.Dec.{ltb, eqb}
use lib.ListN.{length}
use lib.Ieee.{Float}
use Rattle.picks.specs.Pick.{pick}
use Rattle.limits.specs.declared.Kind.TheVariants.{Beat}
use Rattle.limits.specs.Numbers.{range_of, all_in}
use Rattle.tidy_speeds.specs.SpeedTidying.{values_number, speed_list_number}

pub record SpeedsTaken (beats ratios delays : List Float) (units : List ℕ) : Type 0 where
  pub few : length beats ≤ 1024
  pub ratios_even : length beats ≡ length ratios
  pub delays_even : length beats ≡ length delays
  pub units_even : length beats ≡ length units
  pub beats_in : all_in (range_of Beat) beats ≡ true

-- what 0 says of each test
passed : (long long' long'' long''' even even' even'' beats : Bool) (values : ℕ) → pick long 1 (pick long' 1 (pick long'' 1 (pick long''' 1 (pick even (pick even' (pick even'' (pick beats values 3) 2) 2) 2)))) ≡ 0
    → (long ≡ false) × (even ≡ true) × (even' ≡ true) × (even'' ≡ true) × (beats ≡ true)
passed false false false false true true true true values h = (refl, refl, refl, refl, refl)
passed true long' long'' long''' even even' even'' beats values h = absurd (omega arith)
passed false true long'' long''' even even' even'' beats values h = absurd (omega arith)
passed false false true long''' even even' even'' beats values h = absurd (omega arith)
passed false false false true even even' even'' beats values h = absurd (omega arith)
passed false false false false false even' even'' beats values h = absurd (omega arith)
passed false false false false true false even'' beats values h = absurd (omega arith)
passed false false false false true true false beats values h = absurd (omega arith)
passed false false false false true true true false values h = absurd (omega arith)

pub speeds-taken : {beats ratios delays : List Float} {units : List ℕ} → speed_list_number beats ratios delays units ≡ 0 → SpeedsTaken beats ratios delays units
unfolding speed_list_number
speeds-taken {beats} {ratios} {delays} {units} h =
    let told = passed (ltb 1024 (length beats)) (ltb 1024 (length ratios)) (ltb 1024 (length delays)) (ltb 1024 (length units)) (eqb (length beats) (length ratios)) (eqb (length beats) (length delays)) (eqb (length beats) (length units))
    (all_in (range_of Beat) beats) (values_number ratios delays units) h in
    record {
      few = ltb-false 1024 (length beats) told.0;
      ratios_even = eqb-true (length beats) (length ratios) told.1;
      delays_even = eqb-true (length beats) (length delays) told.2;
      units_even = eqb-true (length beats) (length units) told.3;
      beats_in = told.4;
    }
