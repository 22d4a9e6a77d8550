-- Stops in a flat list pass the tests of SM stops where the list in columns is taken. Assumes nothing.
use Prim.Native.Nat.{ℕ, ◌+◌, ◌*◌, ◌%◌, ◌≤◌}
use mathlib.Core.Path.{◌≡◌, refl, sym, ap, ◌∙◌}
use mathlib.Core.Bool.{Bool, true, false}
use mathlib.Core.List.{List, [], ◌∷◌, map}
use native.Mathlib.Omega.{arith}
use borrow.Author.Tests.{le-ltb, eq-eqb}
use lib.ListN.{length, length-map}
use lib.Ieee.{Float}
use Rattle.picks.specs.Pick.{pick}
use Rattle.limits.specs.declared.Range.{Range}
use Rattle.limits.specs.Numbers.{in_range, all_in, every}
use Rattle.limits.specs.Refusals.{list_number}
use Rattle.limits.proofs.ListTaken.{list-taken}
use Rattle.order.specs.Entries.{first, second}
use Rattle.stops_for_sm.specs.Filling.{beats_in, values_in, is_even, flat_number, flat}

flat-beats : (range : Range) (list : List (Float × Float)) → beats_in range (flat list) ≡ all_in range (map first list)
unfolding beats_in flat every
flat-beats range [] = refl
flat-beats range (e ∷ list) = ap (λ (b : Bool). pick (in_range range e.0) b false) (flat-beats range list)

flat-values : (range : Range) (list : List (Float × Float)) → values_in range (flat list) ≡ all_in range (map second list)
unfolding values_in flat every
flat-values range [] = refl
flat-values range (e ∷ list) = ap (λ (b : Bool). pick (in_range range e.1) b false) (flat-values range list)

flat-length : (list : List (Float × Float)) → length (flat list) ≡ 2 * length list
unfolding flat
flat-length [] = refl
flat-length (e ∷ list) = omega (arith, flat-length list)

even-twice : (n : ℕ) → (2 * n) % 2 ≡ 0
even-twice n = omega arith

pub flat-taken : (beat value : Range) (list : List (Float × Float)) → list_number beat value (map first list) (map second list) ≡ 0 → flat_number beat value (flat list) ≡ 0
unfolding flat_number
flat-taken beat value list h =
    let is = list-taken h in
    let few : length (flat list) ≤ 2048 = omega (arith, flat-length list, is.few, length-map list first) in
    let even : length (flat list) % 2 ≡ 0 = ap (λ (n : ℕ). n % 2) (flat-length list) ∙ even-twice (length list) in
    rw (le-ltb 2048 (length (flat list)) few, eq-eqb (length (flat list) % 2) 0 even, flat-beats beat list, flat-values value list, is.beats_in, is.values_in)
