-- The parts with a stop between each two are the bytes again, and none has a stop in it: so measures are what stands between commas, and rows what stands
-- between line feeds. Assumes nothing.
use Prim.Native.Nat.{ℕ}
use mathlib.Core.Bool.{Bool, true, false, not}
use mathlib.Core.List.{List, [], ◌∷◌, ◌++◌}
use mathlib.Core.Path.{◌≡◌, refl, ap}
use lib.Dec.{eqb}
use borrow.Author.Tests.{eqb-true}
use Rattle.picks.specs.Pick.{pick}
use Rattle.limits.specs.Numbers.{every}
use Rattle.notes_rows.specs.Measures.{first_part, later_parts, parts}

module _ (stop : ℕ) where
  abbrev pub each_behind_stop : List (List ℕ) → List ℕ
  each_behind_stop [] = []
  each_behind_stop (part ∷ rest) = stop ∷ part ++ each_behind_stop rest

  pub parts_are_the_data : (bytes : List ℕ) → first_part stop bytes ++ each_behind_stop (later_parts stop bytes) ≡ bytes
  unfolding first_part later_parts
  parts_are_the_data [] = refl
  parts_are_the_data (byte ∷ bytes) = go (eqb byte stop) refl (parts_are_the_data bytes)
    where
      go : (ends : Bool) → eqb byte stop ≡ ends → first_part stop bytes ++ each_behind_stop (later_parts stop bytes) ≡ bytes
          → pick ends [] (byte ∷ first_part stop bytes) ++ each_behind_stop (pick ends (first_part stop bytes ∷ later_parts stop bytes) (later_parts stop bytes)) ≡ byte ∷ bytes
      go true is rest = rw (eqb-true byte stop is) (ap (◌∷◌ stop) rest)
      go false is rest = ap (◌∷◌ byte) rest

  abbrev pub no_stop : List ℕ → Bool
  no_stop part = every (λ (byte : ℕ). not (eqb byte stop)) part

  first_has_none : (bytes : List ℕ) → no_stop (first_part stop bytes) ≡ true
  unfolding first_part every
  first_has_none [] = refl
  first_has_none (byte ∷ bytes) = go (eqb byte stop) refl (first_has_none bytes)
    where
      go : (ends : Bool) → eqb byte stop ≡ ends → no_stop (first_part stop bytes) ≡ true → no_stop (pick ends [] (byte ∷ first_part stop bytes)) ≡ true
      go true is rest = refl
      go false is rest = rw is rest

  later_have_none : (bytes : List ℕ) → every no_stop (later_parts stop bytes) ≡ true
  unfolding later_parts every
  later_have_none [] = refl
  later_have_none (byte ∷ bytes) = go (eqb byte stop) (later_have_none bytes)
    where
      go : (ends : Bool) → every no_stop (later_parts stop bytes) ≡ true → every no_stop (pick ends (first_part stop bytes ∷ later_parts stop bytes) (later_parts stop bytes)) ≡ true
      go true rest = rw (first_has_none bytes) rest
      go false rest = rest

  pub no_part_has_a_stop : (bytes : List ℕ) → every no_stop (parts stop bytes) ≡ true
  unfolding parts every
  no_part_has_a_stop bytes = rw (first_has_none bytes) (later_have_none bytes)
