-- Where quantised beats fall, the assembled list is what is given, each number by itself, turned round. Assumes nothing.
use Prim.Native.Nat.{◌<◌}
use mathlib.Core.Path.{◌≡◌, refl, sym, ap, ◌∙◌}
use mathlib.Core.Bool.{true}
use mathlib.Core.List.{List, [], ◌∷◌, map, map-map, reverse}
use native.Mathlib.Omega.{arith}
use borrow.Author.Tests.{ltb-true, le-leb}
use lib.Ieee.{Float}
use Rattle.ieee.specs.Narrowing.{narrow}
use Rattle.rows.specs.Rows.{quantized}
use Rattle.rows.specs.RowKey.{row_key_at, row_key_of, on_its_row}
use Rattle.rows.proofs.Allowed.{taken-allowed}
use Rattle.limits.specs.declared.Kind.TheVariants.{Beat}
use Rattle.limits.specs.Numbers.{in_range, range_of, all_in}
use Rattle.limits.specs.Neighbours.{neighbours, every_two}
use Rattle.limits.proofs.Every.{every_rest}
use Rattle.limits.proofs.EachTwo.{passes}
use Rattle.limits.proofs.ListTaken.{list-taken}
use Rattle.order.specs.Order.{lasts, may_follow, never_rises}
use Rattle.order.specs.Entries.{entries}
use Rattle.order.proofs.TidiedList.{lasts_nil, lasts-one, lasts-other}
use Rattle.order.proofs.TurnedRound.{turned_round, turned-map}
use Rattle.tidy_rows.specs.RowTidying.{tidy_rows, rows_number}
use Rattle.columns_order.specs.Falling.{falling}
use Rattle.assembly_rows.specs.AssembledRows.{narrowed_entry, change_by, assembled_rows, each_by_itself}
use Rattle.assembly_rows.proofs.InRowOrder.{quantized-below}
use Rattle.assembly_rows.proofs.RisingRows.{each_on_its_row}
use Rattle.assembly_rows.specs.declared.Meaning.{Meaning}

-- rows that never rise, and none of them twice
falling-rows : (beats values : List Float) → all_in (range_of Beat) beats ≡ true → every_two falling (map quantized beats) ≡ true
    → (never_rises row_key_of (entries (map quantized beats) values) ≡ true) × (lasts row_key_of (entries (map quantized beats) values) ≡ entries (map quantized beats) values)
unfolding entries neighbours never_rises may_follow
falling-rows [] values a t = (refl, lasts_nil row_key_of)
falling-rows (x ∷ beats) [] a t = (refl, lasts_nil row_key_of)
falling-rows (x ∷ []) (v ∷ values) a t = (refl, lasts-one row_key_of (quantized x, v))
falling-rows (x ∷ y ∷ beats) (v ∷ []) a t = (refl, lasts-one row_key_of (quantized x, v))
falling-rows (x ∷ y ∷ beats) (v ∷ w ∷ values) a t =
    let first = every_rest (in_range (range_of Beat)) x (y ∷ beats) a in
    let second = every_rest (in_range (range_of Beat)) y beats first.1 in
    let two = every_rest (passes falling) (quantized x, quantized y) (neighbours (map quantized (y ∷ beats))) t in
    let below : row_key_at (quantized y) < row_key_at (quantized x) =
    ltb-true (row_key_at (quantized y)) (row_key_at (quantized x)) (sym (quantized-below y x (taken-allowed y second.0) (taken-allowed x first.0)) ∙ two.0) in
    let rest = falling-rows (y ∷ beats) (w ∷ values) first.1 two.1 in (
      rw (le-leb (row_key_at (quantized y)) (row_key_at (quantized x)) (omega arith)) rest.0,
      lasts-other row_key_of (quantized x, v) (quantized y, w) (entries (map quantized beats) values) (omega arith) ∙ ap (◌∷◌ (quantized x, v)) rest.1,
    )

module _ (meaning : Meaning) (beats values : List Float) (h : rows_number beats values ≡ 0) (falls : every_two falling (map quantized beats) ≡ true) where
  abbrev list : List (Float × Float)
  list = entries (map quantized beats) (map (change_by meaning) values)

  same : assembled_rows (change_by meaning) beats values ≡ map narrowed_entry (map on_its_row (reverse list))
  unfolding assembled_rows tidy_rows
  same =
      let by_Row = falling-rows beats (map (change_by meaning) values) (list-taken h).beats_in falls in
      ap (λ (l : List (Float × Float)). map narrowed_entry (map on_its_row l)) (sym (turned_round row_key_of list by_Row.0) ∙ ap reverse by_Row.1)

  pub falling-list : assembled_rows (change_by meaning) beats values ≡ reverse (each_by_itself meaning (map quantized beats) values)
  falling-list =
      same ∙ ap (map narrowed_entry) (turned-map on_its_row list) ∙ turned-map narrowed_entry (map on_its_row list)
      ∙ ap reverse (each_on_its_row beats (map (change_by meaning) values) (list-taken h).beats_in ∙ ap (entries (map quantized beats)) (map-map narrow (change_by meaning) values))
