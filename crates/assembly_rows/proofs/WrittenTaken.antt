-- What is written is within the limits of a timing's lists: beats, and values as stops, delays, warps and fakes have them. Assumes nothing.
use Prim.Native.Nat.{ℕ, ◌*◌, ◌^◌, ◌≤◌}
use mathlib.Core.Path.{◌≡◌, refl, sym, ap, ◌∙◌, subst}
use mathlib.Core.Bool.{Bool, true}
use mathlib.Core.List.{List, [], ◌∷◌, map, map-map}
use native.Mathlib.Nat.{le_trans}
use native.Mathlib.Omega.{arith}
use lib.Dec.{T, lit<, lit≤}
use lib.ListN.{length, length-map}
use lib.Pow.{pow_pos}
use lib.Ieee.{Float, binary32, binary64, low, round}
use lib.Ieee.Exact.{HasValue}
use lib.Ieee.Scale.{grid}
use Rattle.ieee.specs.Narrowing.{narrow}
use Rattle.ieee.proofs.Magnitude.{Sized, sized, sized-within}
use Rattle.ieee.proofs.Narrow.{narrow-value}
use Rattle.ieee.proofs.RoundedSize.{grid_up_to, grid_under}
use Rattle.ieee.proofs.Units.{round-units}
use Rattle.rows.specs.Rows.{row, quantized, allowed_beat}
use Rattle.rows.proofs.BeatsRise.{beat-allowed}
use Rattle.rows.proofs.RowWithin.{row_within}
use Rattle.limits.specs.declared.Kind.TheVariants.{Beat, Pause, Value}
use Rattle.limits.specs.Numbers.{in_range, range_of, every, all_in}
use Rattle.limits.specs.Refusals.{list_number}
use Rattle.limits.proofs.Every.{every_rest}
use Rattle.limits.proofs.ListTaken.{list-taken, list-passes}
use Rattle.limits.proofs.TakenWithin.{taken-within, within-taken}
use Rattle.order.specs.Entries.{entries, first, second}
use Rattle.order.proofs.OrderedList.{Each}
use Rattle.order.proofs.EachEntry.{each-tidied}
use Rattle.tidy_rows.specs.RowTidying.{tidy_rows}
use Rattle.rows.specs.RowKey.{beat_on_row, row_key_of, on_its_row}
use Rattle.tidy_rows.proofs.NoLonger.{tidy_no_longer}
use Rattle.tidy_rows.proofs.RowsRise.{Allowed, kept-allowed}
use Rattle.rows.proofs.Allowed.{allowed-taken}
use Rattle.assembly_rows.specs.AssembledRows.{narrowed_entry, assembled_rows, assembled_number}
use Rattle.assembly_rows.proofs.WrittenRises.{narrowed_on_row, written_beat, kept_rows, written-beats}

-- ---- numbers
narrow-small : (x : Float) → Sized 30 x → Sized 30 (narrow x)
narrow-small x z =
    let a = z.num in
    let c = z.den in
    let few : a ≤ 1 * 2 ^ 30 * c = omega (arith, z.small) in
    record {
      negative = z.negative;
      num = grid binary32 a c;
      den = 2 ^ low binary32;
      den_pos = pow_pos (low binary32);
      value =
          subst (λ (y : Float). HasValue y z.negative (grid binary32 a c) (2 ^ low binary32)) (sym (narrow-value x z.negative a c z.den_pos z.value))
          (round-units binary32 z.negative a c (grid_under binary32 a c 1 30 z.den_pos (lit< tt) few (lit< tt)));
      small = le_trans (grid_up_to binary32 a c 1 30 z.den_pos (lit< tt) few) (lit≤ tt);
    }

pub narrow_value_taken : (x : Float) → in_range (range_of Value) x ≡ true → in_range (range_of Value) (narrow x) ≡ true
narrow_value_taken x h = within-taken 30 (narrow x) (sized-within 30 (narrow x) (narrow-small x (sized 30 x (taken-within 30 x h))))

-- a value is small enough for a stop or a delay
pub value_is_pause : (x : Float) → in_range (range_of Value) x ≡ true → in_range (range_of Pause) x ≡ true
value_is_pause x h =
    let z = sized 30 x (taken-within 30 x h) in
    within-taken 50 x (sized-within 50 x (record { negative = z.negative; num = z.num; den = z.den; den_pos = z.den_pos; value = z.value; small = omega (arith, z.small) }))

written_beat_taken : (beat : Float) → T (allowed_beat beat) → in_range (range_of Beat) (narrow (beat_on_row beat)) ≡ true
written_beat_taken beat h =
    allowed-taken (narrow (beat_on_row beat)) (subst (λ (x : Float). T (allowed_beat x)) (sym (narrowed_on_row beat h)) (beat-allowed binary32 (row binary64 beat) (row_within binary64 beat h)))

-- ---- columns
each-passes : (P : Float × Float → Type 0) (test : Float → Bool) (g : Float × Float → Float) → ((e : Float × Float) → P e → test (g e) ≡ true) → (l : List (Float × Float)) → Each row_key_of P l → every test (map g l) ≡ true
unfolding every
each-passes P test g so [] p = refl
each-passes P test g so (e ∷ l) p = rw (so e p.0) (each-passes P test g so l p.1)

values-each : (beats values : List Float) → all_in (range_of Value) values ≡ true → Each row_key_of (λ (e : Float × Float). in_range (range_of Value) e.1 ≡ true) (entries beats values)
unfolding entries
values-each [] values h = tt
values-each (beat ∷ beats) [] h = tt
values-each (beat ∷ beats) (value ∷ values) h = let both = every_rest (in_range (range_of Value)) value values h in (both.0, values-each beats values both.1)

every-wider : (l : List Float) → all_in (range_of Value) l ≡ true → all_in (range_of Pause) l ≡ true
unfolding every
every-wider [] h = refl
every-wider (x ∷ l) h = let both = every_rest (in_range (range_of Value)) x l h in rw (value_is_pause x both.0) (every-wider l both.1)

module _ (change : Float → Float) (beats values : List Float) (h : assembled_number change beats values ≡ 0) where
  written-values : map second (assembled_rows change beats values) ≡ map (λ (e : Float × Float). narrow e.1) (kept_rows change beats values)
  unfolding assembled_rows tidy_rows
  written-values = map-map second narrowed_entry (map on_its_row (kept_rows change beats values)) ∙ map-map (λ (e : Float × Float). narrow e.1) on_its_row (kept_rows change beats values)

  pub written_beats_in : all_in (range_of Beat) (map first (assembled_rows change beats values)) ≡ true
  written_beats_in =
      ap (all_in (range_of Beat)) (written-beats change beats values)
      ∙ each-passes Allowed (in_range (range_of Beat)) written_beat (λ e p. written_beat_taken e.0 p) (kept_rows change beats values) (kept-allowed (map quantized beats) (map change values) h)

  pub written_values_in : all_in (range_of Value) (map second (assembled_rows change beats values)) ≡ true
  written_values_in =
      ap (all_in (range_of Value)) written-values
      ∙ each-passes (λ (e : Float × Float). in_range (range_of Value) e.1 ≡ true) (in_range (range_of Value)) (λ (e : Float × Float). narrow e.1) (λ e p. narrow_value_taken e.1 p) (kept_rows change beats values)
      (each-tidied row_key_of (λ (e : Float × Float). in_range (range_of Value) e.1 ≡ true) (entries (map quantized beats) (map change values)) (values-each (map quantized beats) (map change values) (list-taken h).values_in))

  pub written-few : length (assembled_rows change beats values) ≤ 1024
  unfolding assembled_rows
  written-few =
      omega (arith, length-map (tidy_rows (map quantized beats) (map change values)) narrowed_entry, tidy_no_longer (map quantized beats) (map change values), (list-taken h).few)

  few-beats : length (map first (assembled_rows change beats values)) ≤ 1024
  few-beats = simp length-map written-few

  even-columns : length (map first (assembled_rows change beats values)) ≡ length (map second (assembled_rows change beats values))
  even-columns = length-map (assembled_rows change beats values) first ∙ sym (length-map (assembled_rows change beats values) second)

  -- as warps and fakes
  pub written-taken : list_number (range_of Beat) (range_of Value) (map first (assembled_rows change beats values)) (map second (assembled_rows change beats values)) ≡ 0
  written-taken = list-passes (range_of Beat) (range_of Value) _ _ few-beats even-columns written_beats_in written_values_in

  -- as stops and delays
  pub written_pauses_taken : list_number (range_of Beat) (range_of Pause) (map first (assembled_rows change beats values)) (map second (assembled_rows change beats values)) ≡ 0
  written_pauses_taken = list-passes (range_of Beat) (range_of Pause) _ _ few-beats even-columns written_beats_in (every-wider (map second (assembled_rows change beats values)) written_values_in)
