-- A list that is not tested first is laid each by itself or assembled, turned round where its beats fall, and where it is taken both are the same. Assumes nothing.
use Prim.Native.Nat.{◌≤◌, ◌<◌}
use mathlib.Core.Path.{◌≡◌, refl, sym, ap, ◌∙◌}
use mathlib.Core.Bool.{Bool, true, false}
use mathlib.Core.List.{List, map, reverse}
use native.Mathlib.Omega.{arith}
use borrow.Author.Tests.{eq-eqb, ne_eqb, le-leb, lt-leb, eqb-true}
use lib.Dec.{eqb}
use lib.ListN.{length, length-map}
use lib.Ieee.{Float, lt}
use Rattle.picks.specs.Pick.{pick}
use Rattle.rows.specs.Rows.{quantized}
use Rattle.limits.specs.declared.Range.{Range}
use Rattle.limits.specs.declared.Kind.TheVariants.{Beat, Value}
use Rattle.limits.specs.Numbers.{range_of}
use Rattle.limits.specs.Refusals.{list_number}
use Rattle.limits.specs.Neighbours.{every_two}
use Rattle.limits.proofs.ListTaken.{list-taken}
use Rattle.order.proofs.OrderedList.{both}
use Rattle.columns.specs.declared.Outcome.{Outcome}
use Rattle.columns.specs.Laying.{refused_by, LaidPair}
use Rattle.tidy_rows.specs.RowTidying.{rows_number}
use Rattle.columns_order.specs.Falling.{falling}
use Rattle.assembly_rows.specs.AssembledRows.{change_by, assembled_rows, assembled_number, each_by_itself, EachLaid, by_itself_at, RowsAssembled, RowsUntested}
use Rattle.assembly_rows.proofs.QuantizedTaken.{quantized-taken}
use Rattle.assembly_rows.proofs.RisingRows.{rising-list}
use Rattle.assembly_rows.proofs.FallingRows.{falling-list}
use Rattle.assembly_rows.proofs.Outcomes.{refused_as, long-number}
use Rattle.assembly_rows.specs.declared.Meaning.{Meaning}

module _ (beats values : List Float) where
  -- of columns of one length, that of a list, it is whether quantised beats rise
  by_itself : length beats ≡ length values → length beats ≤ 1024 → by_itself_at beats values ≡ every_two lt (map quantized beats)
  unfolding by_itself_at
  by_itself even few = rw (eq-eqb (length beats) (length values) even, le-leb (length beats) 1024 few)

  -- columns that differ in length are refused by the same number, quantised or not
  differing : (beat value : Range) (f g : Float → Float) → (length beats ≡ length values → ⊥) → list_number beat value (map f beats) (map g values) ≡ list_number beat value beats values
  unfolding list_number
  differing beat value f g h = rw (length-map beats f, length-map values g, ne_eqb (length beats) (length values) h)

  not_even : (length beats ≡ length values → ⊥) → by_itself_at beats values ≡ false
  unfolding by_itself_at
  not_even h = rw (ne_eqb (length beats) (length values) h)

  not_few : length beats ≡ length values → 1024 < length beats → by_itself_at beats values ≡ false
  unfolding by_itself_at
  not_few even h = rw (eq-eqb (length beats) (length values) even, lt-leb (length beats) 1024 h)

  module _ (meaning : Meaning) where
    module _ {outcome : Outcome} {beats_old beats_new values_old values_new : List Float} where
      as_assembled : by_itself_at beats values ≡ false → RowsAssembled meaning beats values outcome beats_old beats_new values_old values_new → RowsUntested meaning beats values outcome beats_old beats_new values_old values_new
      as_assembled h p = rw h p

      -- where quantised beats do not rise
      pub not_rising_lem : length beats ≡ length values → length beats ≤ 1024 → every_two lt (map quantized beats) ≡ false
          → RowsAssembled meaning beats values outcome beats_old beats_new values_old values_new → RowsUntested meaning beats values outcome beats_old beats_new values_old values_new
      not_rising_lem even few h p = as_assembled (by_itself even few ∙ h) p

      -- where they do
      pub rising : {quantised : List Float} → length beats ≡ length values → length beats ≤ 1024 → quantised ≡ map quantized beats → every_two lt quantised ≡ true
          → EachLaid meaning quantised values outcome beats_old beats_new values_old values_new → RowsUntested meaning beats values outcome beats_old beats_new values_old values_new
      rising {quantised} even few e h p =
          rw (by_itself even few ∙ sym (ap (every_two lt) e) ∙ h)
          (rw (eq-eqb (length (map quantized beats)) (length values) (length-map beats quantized ∙ even)) at (rw e at p))

      -- where they fall, of a taken list
      pub fallen : {quantised : List Float} → length beats ≡ length values → length beats ≤ 1024 → quantised ≡ map quantized beats → every_two lt quantised ≡ false
          → pick (every_two falling quantised) (eqb (rows_number beats values) 0) false ≡ true
          → LaidPair 0 (reverse (each_by_itself meaning quantised values)) outcome beats_old beats_new values_old values_new → RowsUntested meaning beats values outcome beats_old beats_new values_old values_new
      fallen {quantised} even few e h t p =
          let both_so = both (λ (x : Float). 0) (every_two falling quantised) (eqb (rows_number beats values) 0) t in
          let passes = eqb-true (rows_number beats values) 0 both_so.1 in
          not_rising_lem even few (ap (every_two lt) (sym e) ∙ h)
          (rw (quantized-taken beats values meaning passes, falling-list meaning beats values passes (ap (every_two falling) (sym e) ∙ both_so.0)) (rw e at p))

      -- of a taken list
      module _ (h : rows_number beats values ≡ 0) where
        choose : (each : Bool) → by_itself_at beats values ≡ each
            → LaidPair (pick each 0 (assembled_number (change_by meaning) beats values)) (pick each (each_by_itself meaning (map quantized beats) values) (assembled_rows (change_by meaning) beats values)) outcome beats_old beats_new values_old values_new
            → RowsAssembled meaning beats values outcome beats_old beats_new values_old values_new
        choose true e p = rw (quantized-taken beats values meaning h, rising-list meaning beats values h (sym (by_itself (list-taken h).even (list-taken h).few) ∙ e)) p
        choose false e p = p

        pub untested_taken : RowsUntested meaning beats values outcome beats_old beats_new values_old values_new → RowsAssembled meaning beats values outcome beats_old beats_new values_old values_new
        untested_taken p = choose (by_itself_at beats values) refl p

    -- refused for its lengths
    module _ (beats_old values_old : List Float) where
      pub differing-refused : (length beats ≡ length values → ⊥) → RowsUntested meaning beats values (refused_by (list_number (range_of Beat) (range_of Value) beats values)) beats_old beats_old values_old values_old
      differing-refused h =
          as_assembled (not_even h)
          (refused_as (assembled_rows (change_by meaning) beats values) beats_old values_old (differing (range_of Beat) (range_of Value) quantized (change_by meaning) h) (λ e. h (list-taken e).even))

      pub long-refused : length beats ≡ length values → 1024 < length beats → RowsUntested meaning beats values (refused_by 1) beats_old beats_old values_old values_old
      long-refused even h = as_assembled (not_few even h) (refused_as (assembled_rows (change_by meaning) beats values) beats_old values_old (long-number (change_by meaning) beats values h) (λ e. omega arith))
