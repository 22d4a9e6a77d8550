-- Mended scrolls are assembled, and drawn by. Assumes nothing.
use Prim.Native.Nat.{ℕ, ◌≤◌}
use mathlib.Core.Path.{◌≡◌, refl, sym, ap, subst, ◌∙◌}
use mathlib.Core.Bool.{Bool, true, not}
use mathlib.Core.List.{List, [], ◌∷◌, map, map-map}
use native.Mathlib.Omega.{arith}
use borrow.Author.Tests.{eq-eqb, le-ltb}
use lib.Dec.{T, ltb}
use lib.ListN.{length, length-map}
use lib.Ieee.{Float, binary32, binary64, lt}
use Rattle.ieee.specs.Narrowing.{narrow}
use Rattle.limits.specs.declared.Kind.TheVariants.{Beat, Value}
use Rattle.limits.specs.Numbers.{range_of, in_range, all_in, every}
use Rattle.limits.specs.Neighbours.{neighbours, every_two, not_falling}
use Rattle.limits.specs.Refusals.{list_number}
use Rattle.limits.proofs.Every.{every_rest}
use Rattle.limits.proofs.ListTaken.{list-taken, list-passes}
use Rattle.order.specs.Order.{never_falls}
use Rattle.order.specs.Entries.{entries, first, second}
use Rattle.order.proofs.Columns.{length-entries}
use Rattle.order.proofs.OrderedList.{Each}
use Rattle.rows.specs.Rows.{row, beat_of, quantized, allowed_beat}
use Rattle.rows.specs.RowKey.{row_key_at, beat_on_row, on_its_row}
use Rattle.rows.proofs.Allowed.{taken-allowed, allowed-taken}
use Rattle.rows.proofs.BeatsRise.{beat-order, beat-allowed}
use Rattle.rows.proofs.RowKeys.{rows-below}
use Rattle.rows.proofs.RowWithin.{row_within, in_i32}
use Rattle.chart.specs.ChartColumns.{ListColumns}
use Rattle.tidy_kept.specs.Near.{near_to}
use Rattle.tidy_kept.specs.Keeping.{row_of, kept_of}
use Rattle.tidy_kept.proofs.ColumnsPlaced.{never_falls_entries}
use Rattle.tidy_kept.proofs.KeptInOrder.{Apart, kept-apart}
use Rattle.tidy_scrolls.specs.ScrollTidying.{tidy_scrolls}
use Rattle.tidy_scrolls.proofs.Outcomes.{ordered-number}
use Rattle.assembly_rows.specs.AssembledRows.{narrowed_entry}
use Rattle.assembly_rows.proofs.QuantizedTaken.{quantized_beats_taken}
use Rattle.assembly_rows.proofs.WrittenRises.{narrowed_on_row, written_beat}
use Rattle.assembly_rows.proofs.WrittenTaken.{narrow_value_taken}
use Rattle.assembly_scrolls.specs.AssembledScrolls.{assembled_scrolls, assembled_scrolls_number}
use Rattle.assembly_scrolls.proofs.Outcomes as assembly
use Rattle.assembly_scrolls.proofs.QuantizedTaken.{scrolls-pass}
use Rattle.notes_displayed.specs.Answers.{scroll_columns_number}
use Rattle.mend_fates.specs.MendedLists.{mended_list}
use Rattle.mend_fates.proofs.MendedAgain.{no_longer}
use Rattle.mend_scrolls.specs.MendedScrolls.{scroll_entries, mended_scrolls, scroll_tests}
use Rattle.tidy_kept.specs.Keeping.{nearby}
use Rattle.mend_laws.specs.OnItsWay.{ScrollsOnTheirWay}
use Rattle.mend_laws.proofs.WrittenInOrder.{written-rises, each-written, beats-taken, narrowed_never_falls, ordered_way}
use Rattle.mend_laws.proofs.EachKept.{each-kept}

abbrev Taken : Float × Float → Type 0
Taken e = (in_range (range_of Beat) e.0 ≡ true) × (in_range (range_of Value) e.1 ≡ true)

abbrev key : Float × Float → ℕ
key = row_of row_key_at near_to

-- ---- columns that are taken, entry by entry, and back
each-taken : (beats values : List Float) → all_in (range_of Beat) beats ≡ true → all_in (range_of Value) values ≡ true → Each key Taken (entries beats values)
unfolding entries
each-taken [] values a b = tt
each-taken (x ∷ beats) [] a b = tt
each-taken (x ∷ beats) (v ∷ values) a b =
    let beat = every_rest (in_range (range_of Beat)) x beats a in
    let value = every_rest (in_range (range_of Value)) v values b in
    ((beat.0, value.0), each-taken beats values beat.1 value.1)

passes : (test : Float → Bool) (part : Float × Float → Float) → ((e : Float × Float) → Taken e → test (part e) ≡ true) → (list : List (Float × Float)) → Each key Taken list → every test (map part list) ≡ true
unfolding every
passes test part so [] p = refl
passes test part so (e ∷ list) p = rw (so e p.0) (passes test part so list p.1)

each_first : (list : List (Float × Float)) → Each key Taken list → Each key (λ (e : Float × Float). in_range (range_of Beat) e.0 ≡ true) list
each_first [] p = tt
each_first (e ∷ list) p = (p.0.0, each_first list p.1)

-- ---- beats of rows that rise, narrowed, never fall
not_below_lem : (x y : Float) → T (allowed_beat x) → T (allowed_beat y) → row_key_at x ≤ row_key_at y → not_falling (narrow (beat_on_row x)) (narrow (beat_on_row y)) ≡ true
not_below_lem x y p q l =
    let r = row binary64 x in
    let s = row binary64 y in
    let a = row_within binary64 x p in
    let b = row_within binary64 y q in
    rw (narrowed_on_row x p, narrowed_on_row y q) (ap not (beat-order binary32 s r b a ∙ rows-below s r (in_i32 s b) (in_i32 r a) ∙ le-ltb (row_key_at y) (row_key_at x) l))

kept_never_fall : (list : List (Float × Float)) → Each key Taken list → Apart row_key_at near_to list → every_two not_falling (map written_beat list) ≡ true
unfolding every neighbours
kept_never_fall [] p a = refl
kept_never_fall (e ∷ []) p a = refl
kept_never_fall (e ∷ f ∷ list) p a =
    rw (not_below_lem e.0 f.0 (taken-allowed e.0 p.0.0) (taken-allowed f.0 p.1.0.0) (omega (arith, a.0))) (kept_never_fall (f ∷ list) p.1 a.2)

written_beat_taken : (e : Float × Float) → Taken e → in_range (range_of Beat) (written_beat e) ≡ true
written_beat_taken e p =
    let h = taken-allowed e.0 p.0 in
    allowed-taken (written_beat e) (subst (λ (x : Float). T (allowed_beat x)) (sym (narrowed_on_row e.0 h)) (beat-allowed binary32 (row binary64 e.0) (row_within binary64 e.0 h)))

-- ---- what assembly writes of a list whose rows never fall is drawn by
module _ (beats values : List Float) (h : list_number (range_of Beat) (range_of Value) beats values ≡ 0) (ordered : never_falls row_key_at (map quantized beats) ≡ true) where
  abbrev given : List (Float × Float)
  given = entries (map quantized beats) values

  abbrev kept : List (Float × Float)
  kept = kept_of row_key_at near_to given

  in_order : never_falls key given ≡ true
  in_order = never_falls_entries row_key_at near_to (map quantized beats) values (length-map beats quantized ∙ (list-taken h).even) ∙ ordered

  kept-taken : Each key Taken kept
  kept-taken = each-kept row_key_at near_to Taken given in_order (each-taken (map quantized beats) values (quantized_beats_taken beats (list-taken h).beats_in) (list-taken h).values_in)

  abbrev written : List (Float × Float)
  written = assembled_scrolls beats values

  beats-are : map first written ≡ map written_beat kept
  unfolding assembled_scrolls tidy_scrolls
  beats-are = map-map first narrowed_entry (map on_its_row kept) ∙ map-map (λ (e : Float × Float). narrow e.0) on_its_row kept

  values-are : map second written ≡ map (λ (e : Float × Float). narrow e.1) kept
  unfolding assembled_scrolls tidy_scrolls
  values-are = map-map second narrowed_entry (map on_its_row kept) ∙ map-map (λ (e : Float × Float). narrow e.1) on_its_row kept

  few : length (map first written) ≤ 1024
  few = simp length-map (omega (arith, assembly.no_longer beats values, (list-taken h).few))

  list-number : list_number (range_of Beat) (range_of Value) (map first written) (map second written) ≡ 0
  list-number =
      list-passes (range_of Beat) (range_of Value) (map first written) (map second written) few (length-map written first ∙ sym (length-map written second))
      (ap (all_in (range_of Beat)) beats-are ∙ passes (in_range (range_of Beat)) written_beat written_beat_taken kept kept-taken)
      (ap (all_in (range_of Value)) values-are ∙ passes (in_range (range_of Value)) (λ (e : Float × Float). narrow e.1) (λ e p. narrow_value_taken e.1 p.1) kept kept-taken)

  pub drawn-by : scroll_columns_number (map first written) (map second written) ≡ 0
  unfolding scroll_columns_number
  drawn-by =
      rw (list-number, ap (every_two not_falling) beats-are ∙ kept_never_fall kept kept-taken (kept-apart row_key_at near_to given in_order))

-- ---- THE LAW
module _ (scrolls : ListColumns) (h : scroll_tests scrolls ≡ 0) where
  abbrev list : List (Float × Float)
  list = mended_scrolls scrolls

  raw-taken : Each key Taken (scroll_entries scrolls)
  raw-taken = each-taken scrolls.beats scrolls.values (list-taken h).beats_in (list-taken h).values_in

  raw-beats : Each key (λ (e : Float × Float). in_range (range_of Beat) e.0 ≡ true) (scroll_entries scrolls)
  raw-beats = each_first (scroll_entries scrolls) raw-taken

  fewer : length list ≤ length (scroll_entries scrolls)
  unfolding mended_list
  fewer = no_longer (row_of row_key_at near_to) (nearby row_key_at near_to) (scroll_entries scrolls)

  few-written : length (map first list) ≤ 1024
  few-written = simp length-map (omega (arith, fewer, length-entries scrolls.beats scrolls.values (list-taken h).even, (list-taken h).few))

  -- what is written is taken
  pub written-taken : list_number (range_of Beat) (range_of Value) (map first list) (map second list) ≡ 0
  written-taken =
      list-passes (range_of Beat) (range_of Value) (map first list) (map second list) few-written (length-map list first ∙ sym (length-map list second)) (beats-taken near_to (scroll_entries scrolls) raw-beats)
      (passes (in_range (range_of Value)) second (λ e p. p.1) list (each-written near_to Taken (scroll_entries scrolls) raw-taken))

  pub scrolls_on_their_way : ScrollsOnTheirWay scrolls
  scrolls_on_their_way =
      let way = ordered_way near_to (scroll_entries scrolls) raw-beats in
      record {
        rising = written-rises near_to (scroll_entries scrolls);
        narrowed = narrowed_never_falls near_to (scroll_entries scrolls) raw-beats;
        assembled = ordered-number (map quantized (map first list)) (map second list) (scrolls-pass (map first list) (map second list) written-taken) way;
        drawn = drawn-by (map first list) (map second list) written-taken way;
      }
