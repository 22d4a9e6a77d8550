-- The places of beats in the stable order of their rows are so for entries that have these beats. Assumes nothing.
use mathlib.Core.Path.{◌≡◌, ap, sym, ◌∙◌}
use mathlib.Core.List.{List, map, map-map, map-id}
use Prim.Native.Nat.{ℕ, ◌≤◌, ◌<◌}
use lib.ListN.{length, get_or}
use lib.Ieee.{Float}
use Rattle.order.specs.Order.{ordered}
use Rattle.order.specs.Entries.{places}
use Rattle.order.specs.Packed.{packed_key, upper_half, lower_half}
use Rattle.order.proofs.OrderedList.{Each, each-ordered}
use Rattle.order.proofs.EachEntry.{each_so, map-agree}
use Rattle.order.proofs.PackedOrder.{packed-upper, packed-lower}
use Rattle.tidy_rows_sort.specs.RowOrder.{row_key_of_place, places_by_row}
use Rattle.tidy_rows_sort.proofs.PlacesInOrder.{places-fit}
use Rattle.mend_fates.specs.inside.Walking.{InRowOrder}

module _ (beats : List Float) (few : length beats ≤ 1024) where
  abbrev row : ℕ → ℕ
  row = row_key_of_place beats

  abbrev packed : ℕ → ℕ
  packed p = packed_key (row_key_of_place beats p) p

  abbrev all : List ℕ
  all = places (length beats)

  abbrev order : List ℕ
  order = ordered row all

  small_in_order : Each row (λ (p : ℕ). p < 4294967296) order
  small_in_order = each-ordered row (λ (p : ℕ). p < 4294967296) all (places-fit beats few)

  lowers : map lower_half (places_by_row beats) ≡ order
  unfolding places_by_row
  lowers =
      map-map lower_half packed order ∙ map-agree row (λ (p : ℕ). lower_half (packed p)) (λ (p : ℕ). p) order (each_so row (λ p h. packed-lower (row p) p h) order small_in_order)
      ∙ map-id order

  uppers : map upper_half (places_by_row beats) ≡ map row order
  unfolding places_by_row
  uppers = map-map upper_half packed order ∙ map-agree row (λ (p : ℕ). upper_half (packed p)) row order (each_so row (λ p h. packed-upper (row p) p h) order small_in_order)

  -- entries as many as beats, each on the row of its beat
  pub in_row_order : {A : Type 0} (none : A) (key : A → ℕ) (raw : List A) {numbers : List ℕ} → length raw ≡ length beats → ((p : ℕ) → row p ≡ key (get_or raw p none))
      → numbers ≡ places_by_row beats → InRowOrder none key raw numbers
  in_row_order none key raw {numbers} long rows e =
      let same : row ≡ (λ (p : ℕ). key (get_or raw p none)) = λ i p. rows p i in
      let are : map lower_half numbers ≡ order = ap (map lower_half) e ∙ lowers in
      record {
        places_are = are ∙ ap (λ (key : ℕ → ℕ). ordered key all) same ∙ ap (λ (n : ℕ). ordered (λ (p : ℕ). key (get_or raw p none)) (places n)) (sym long);
        keys_are = ap (map upper_half) e ∙ uppers ∙ ap (λ (key : ℕ → ℕ). map key order) same ∙ ap (map (λ (p : ℕ). key (get_or raw p none))) (sym are);
      }
