-- Places tidied as numbers, and read back, are the places of the tidied list: tidying commutes with what is done to each value, so nothing is said of floats but of
-- the numbers of 1,024 places. What a column has at those places are its tidied values. Assumes nothing.
use Prim.Native.Nat.{ℕ, zero, suc, ◌+◌, ◌≤◌, ◌<◌}
use mathlib.Core.Path.{◌≡◌, refl, sym, ap, ◌∙◌}
use mathlib.Core.Bool.{Bool, true, false}
use mathlib.Core.List.{List, map, map-map}
use native.Mathlib.Omega.{arith}
use borrow.Author.Tests.{eqb-true}
use lib.Dec.{eqb}
use lib.ListN.{length, get_or, length-map}
use lib.Ieee.{Float, of_bits, to_bits, lt, le, eq}
use Rattle.picks.specs.Pick.{pick}
use Rattle.limits.specs.declared.Kind.TheVariants.{Beat, Value}
use Rattle.limits.specs.Numbers.{range_of, in_range, all_in, every}
use Rattle.limits.proofs.Every.{every-at}
use Rattle.limits.proofs.ListTaken.{list-passes}
use Rattle.order.specs.Entries.{first, second, places_from, places}
use Rattle.order_sort.proofs.GatheredByPlaces.{places-length, places_get, read-places}
use Rattle.tidy_rows.specs.RowTidying.{tidy_rows, rows_number}
use Rattle.tidy_rows.proofs.AnyValues.{changed, tidy-changed, tidy-seconds}
use Rattle.tidy_warps.specs.inside.PlaceNumbers.{place_number, number_place}

-- ---- one place: read back it is the same, and its number is taken as a value
abbrev there_and_back : ℕ → ℕ
there_and_back place = number_place (place_number place)

unfoldable carried : ℕ → Bool
carried place = pick (eqb (there_and_back place) place) (in_range (range_of Value) (place_number place)) false

each-carried : every carried (places 1024) ≡ true
unfolding every places places_from carried in_range of_bits to_bits lt le eq
each-carried = refl

place-carried : (place : ℕ) → place < 1024 → (there_and_back place ≡ place) × (in_range (range_of Value) (place_number place) ≡ true)
unfolding carried
place-carried place h =
    go (eqb (there_and_back place) place) refl
    (sym (ap carried (places_get 1024 place h)) ∙ every-at carried (places 1024) place 0 each-carried (omega (arith, places-length 1024)))
  where
    go : (t : Bool) → eqb (there_and_back place) place ≡ t → pick t (in_range (range_of Value) (place_number place)) false ≡ true
        → (there_and_back place ≡ place) × (in_range (range_of Value) (place_number place) ≡ true)
    go true e k = (eqb-true (there_and_back place) place e, k)
    go false e k = let z : ◌≡◌ {A = ℕ} 0 1 = cc in absurd (omega arith)

-- ---- the places of a list
back_from : (at n : ℕ) → at + n ≤ 1024 → map there_and_back (places_from at n) ≡ places_from at n
unfolding places_from
back_from at zero h = refl
back_from at (suc n) h = rw ((place-carried at (omega arith)).0, back_from (suc at) n (omega arith))

in_from : (at n : ℕ) → at + n ≤ 1024 → all_in (range_of Value) (map place_number (places_from at n)) ≡ true
unfolding places_from every
in_from at zero h = refl
in_from at (suc n) h = rw ((place-carried at (omega arith)).1, in_from (suc at) n (omega arith))

module _ (beats : List Float) (few : length beats ≤ 1024) where
  abbrev numbers : List Float
  numbers = map place_number (places (length beats))

  pub numbers-long : length (map place_number (places (length beats))) ≡ length beats
  numbers-long = length-map (places (length beats)) place_number ∙ places-length (length beats)

  pub numbers-taken : all_in (range_of Beat) beats ≡ true → rows_number beats (map place_number (places (length beats))) ≡ 0
  unfolding places
  numbers-taken beats_in = list-passes (range_of Beat) (range_of Value) beats numbers few (sym numbers-long) beats_in (in_from 0 (length beats) (omega arith))

  places-read : map number_place (map second (tidy_rows beats numbers)) ≡ map second (tidy_rows beats (places (length beats)))
  unfolding places
  places-read =
      ap (map number_place) (tidy-seconds place_number beats (places (length beats))) ∙ map-map number_place place_number (map second (tidy_rows beats (places (length beats))))
      ∙ sym (tidy-seconds there_and_back beats (places (length beats))) ∙ ap (λ (l : List ℕ). map second (tidy_rows beats l)) (back_from 0 (length beats) (omega arith))

  -- a column of the list, read at the places that are left
  module _ {X : Type 0} (none : X) (values : List X) (even : length beats ≡ length values) where
    abbrev at : ℕ → X
    at place = get_or values place none

    all_read : map at (places (length beats)) ≡ values
    all_read = ap (λ (n : ℕ). map at (places n)) even ∙ read-places none values

    pub column-read : map (λ (place : ℕ). get_or values place none) (map number_place (map second (tidy_rows beats (map place_number (places (length beats)))))) ≡ map second (tidy_rows beats values)
    column-read =
        ap (map at) places-read ∙ sym (tidy-seconds at beats (places (length beats))) ∙ ap (λ (l : List X). map second (tidy_rows beats l)) all_read

    pub beats-read : map first (tidy_rows beats (map place_number (places (length beats)))) ≡ map first (tidy_rows beats values)
    beats-read =
        ap (map first) (tidy-changed place_number beats (places (length beats))) ∙ map-map first (changed place_number) (tidy_rows beats (places (length beats)))
        ∙ sym (map-map first (changed at) (tidy_rows beats (places (length beats)))) ∙ sym (ap (map first) (tidy-changed at beats (places (length beats))))
        ∙ ap (λ (l : List X). map first (tidy_rows beats l)) all_read
