-- Where quantised beats rise, the assembled list is what is given, each number by itself: the f32 beat of each row, and each value narrowed. Assumes nothing.
use Prim.Native.Nat.{ℕ}
use mathlib.Core.Path.{◌≡◌, refl, sym, ap, ap₂, ◌∙◌}
use mathlib.Core.Bool.{true}
use mathlib.Core.List.{List, [], ◌∷◌, map, map-map}
use lib.Dec.{T}
use lib.IntN.{ℤ}
use lib.ListN.{length, length-map}
use lib.Ieee.{Float, binary64, lt}
use Rattle.ieee.specs.Narrowing.{narrow}
use Rattle.ieee.proofs.Narrow.{narrow-own}
use Rattle.rows.specs.Rows.{beat_of, quantized, allowed_beat}
use Rattle.rows.proofs.NarrowedBeat.{narrowed-beat}
use Rattle.rows.proofs.Quantizing.{row-quantized}
use Rattle.limits.specs.declared.Kind.TheVariants.{Beat}
use Rattle.limits.specs.Numbers.{in_range, range_of, all_in}
use Rattle.limits.proofs.Every.{every_rest}
use Rattle.limits.proofs.ListTaken.{list-taken}
use Rattle.order.specs.Order.{Above, Rises}
use Rattle.order.specs.Entries.{entries, first, second}
use Rattle.order.proofs.Columns.{first-entries, second-entries}
use Rattle.order.proofs.TidiedList.{tidied-still}
use Rattle.columns.specs.Each.{laid_each}
use Rattle.tidy_rows.specs.RowTidying.{tidy_rows, rows_number}
use Rattle.rows.specs.RowKey.{row_key_at, beat_on_row, row_key_of, on_its_row}
use Rattle.assembly_rows.specs.AssembledRows.{narrowed_entry, change_by, assembled_rows, each_by_itself}
use Rattle.limits.specs.Neighbours.{every_two}
use Rattle.rows.proofs.Allowed.{taken-allowed}
use Rattle.assembly_rows.proofs.InRowOrder.{narrow_row, narrow_row_within, rising-rows}
use Rattle.columns_each.proofs.QuantizedNumbers.{quantized-fits}
use Rattle.assembly_rows.specs.declared.Meaning.{Meaning}

-- a quantised number is an f32
pub quantized-own : (x : Float) → narrow (quantized x) ≡ quantized x
quantized-own x = narrow-own (quantized x) (quantized-fits x)

pub each-quantized : (from old : List Float) → laid_each (λ (x : Float). narrow (quantized x)) from old ≡ laid_each quantized from old
unfolding laid_each
each-quantized [] old = refl
each-quantized (x ∷ from) [] = refl
each-quantized (x ∷ from) (y ∷ old) = ap₂ ◌∷◌ (quantized-own x) (each-quantized from old)

-- on its row at f64 and narrowed, a quantised beat is what it was
pub quantized_on_row : (beat : Float) → T (allowed_beat beat) → narrow (beat_on_row (quantized beat)) ≡ quantized beat
quantized_on_row beat h = ap (λ (r : ℤ). narrow (beat_of binary64 r)) (row-quantized beat h binary64) ∙ narrowed-beat (narrow_row beat) (narrow_row_within beat h)

pub each_on_its_row : (beats values : List Float) → all_in (range_of Beat) beats ≡ true → map narrowed_entry (map on_its_row (entries (map quantized beats) values)) ≡ entries (map quantized beats) (map narrow values)
unfolding entries
each_on_its_row [] values h = refl
each_on_its_row (beat ∷ beats) [] h = refl
each_on_its_row (beat ∷ beats) (value ∷ values) h =
    let both = every_rest (in_range (range_of Beat)) beat beats h in
    ap₂ ◌∷◌ (ap (λ (b : Float). (b, narrow value)) (quantized_on_row beat (taken-allowed beat both.0))) (each_on_its_row beats values both.1)

-- entries rise as their beats do, whatever their values are
module _ {X : Type 0} where
  above-entries : (k : ℕ) (l : List (Float × X)) → Above row_key_at k (map first l) → Above row_key_of k l
  above-entries k [] a = tt
  above-entries k (e ∷ l) a = (a.0, above-entries k l a.1)

  rises-entries : (l : List (Float × X)) → Rises row_key_at (map first l) → Rises row_key_of l
  rises-entries [] r = tt
  rises-entries (e ∷ l) r = (above-entries (row_key_of e) l r.0, rises-entries l r.1)

  -- so tidying leaves each of them, on its row
  module _ (beats : List Float) (values : List X) (beats_in : all_in (range_of Beat) beats ≡ true) (even : length beats ≡ length values)
      (rising : every_two lt (map quantized beats) ≡ true) where
    as_many : length (map quantized beats) ≡ length values
    as_many = length-map beats quantized ∙ even

    rises : Rises row_key_of (entries (map quantized beats) values)
    rises = rises-entries (entries (map quantized beats) values) (rw (first-entries (map quantized beats) values as_many) (rising-rows beats beats_in rising))

    rising-tidied : tidy_rows (map quantized beats) values ≡ map on_its_row (entries (map quantized beats) values)
    unfolding tidy_rows
    rising-tidied = ap (map on_its_row) (tidied-still row_key_of (entries (map quantized beats) values) rises)

    pub rising-values : map second (tidy_rows (map quantized beats) values) ≡ values
    rising-values =
        ap (map second) rising-tidied ∙ map-map second on_its_row (entries (map quantized beats) values) ∙ second-entries (map quantized beats) values as_many

module _ (meaning : Meaning) (beats values : List Float) (h : rows_number beats values ≡ 0) (rising : every_two lt (map quantized beats) ≡ true) where
  abbrev list : List (Float × Float)
  list = entries (map quantized beats) (map (change_by meaning) values)

  same : assembled_rows (change_by meaning) beats values ≡ map narrowed_entry (map on_its_row list)
  unfolding assembled_rows
  same = ap (map narrowed_entry) (rising-tidied beats (map (change_by meaning) values) (list-taken h).beats_in ((list-taken h).even ∙ sym (length-map values (change_by meaning))) rising)

  pub rising-list : assembled_rows (change_by meaning) beats values ≡ each_by_itself meaning (map quantized beats) values
  rising-list = same ∙ each_on_its_row beats (map (change_by meaning) values) (list-taken h).beats_in ∙ ap (entries (map quantized beats)) (map-map narrow (change_by meaning) values)
