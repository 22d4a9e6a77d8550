-- A mended list whose beats are taken: its beats never fall, as they are and narrowed, and the rows of its quantised beats never fall. Assumes nothing.
use mathlib.Core.Path.{◌≡◌, refl, sym, subst, ◌∙◌}
use mathlib.Core.Bool.{Bool, true, false, not}
use mathlib.Core.List.{List, [], ◌∷◌, map, map-id}
use Prim.Native.Nat.{ℕ, ◌<◌}
use borrow.Author.Tests.{lt-ltb}
use lib.Dec.{T}
use lib.Ieee.{Float, binary64, lt, le}
use Rattle.ieee.specs.Narrowing.{narrow}
use Rattle.ieee.proofs.FloatOrder.{lt_le, lt_not_le}
use Rattle.ieee.proofs.Narrow.{narrow_keeps_order}
use Rattle.limits.specs.declared.Kind.TheVariants.{Beat}
use Rattle.limits.specs.Numbers.{range_of, in_range, all_in, every}
use Rattle.limits.specs.Neighbours.{neighbours, every_two, not_falling}
use Rattle.order.specs.Order.{never_falls, Above, Rises}
use Rattle.order.specs.Entries.{first}
use Rattle.order.proofs.OrderedList.{Each}
use Rattle.rows.specs.Rows.{row, quantized, allowed_beat}
use Rattle.rows.specs.RowKey.{row_key_at}
use Rattle.rows.proofs.Allowed.{taken-allowed, allowed-finite}
use Rattle.rows.proofs.Quantizing.{narrow-allowed}
use Rattle.rows.proofs.RowKeys.{rows-below}
use Rattle.rows.proofs.RowWithin.{row_within, in_i32}
use Rattle.rows.proofs.RowsKeepOrder.{rows-rise}
use Rattle.tidy_kept.specs.Keeping.{row_of, nearby}
use Rattle.assembly_rows.proofs.InRowOrder.{rows_never_fall}
use Rattle.mend_fates.specs.MendedLists.{mended_list}
use Rattle.mend_fates.proofs.WrittenList.{mended-rises}
use Rattle.mend_fates.proofs.EachMended.{each-mended}

-- rows that rise have beats that rise
beat-rises : (x y : Float) → T (allowed_beat x) → T (allowed_beat y) → row_key_at x < row_key_at y → T (lt x y)
beat-rises x y p q l =
    let r = row binary64 x in
    let s = row binary64 y in
    rows-rise binary64 x y p q
    (subst T (sym (rows-below r s (in_i32 r (row_within binary64 x p)) (in_i32 s (row_within binary64 y q)) ∙ lt-ltb (row_key_at x) (row_key_at y) l)) tt)

refuted : (b : Bool) → (T b → ⊥) → not b ≡ true
refuted true k = absurd (k tt)
refuted false k = refl

not_above_lem : (x y : Float) → T (allowed_beat x) → T (allowed_beat y) → T (le x y) → not_falling x y ≡ true
not_above_lem x y p q l = refuted (lt y x) (λ k. lt_not_le y x (allowed-finite y q) (allowed-finite x p) k l)

module _ {W : Type 0} (near : W → W → Bool) where
  abbrev key : Float × W → ℕ
  key = row_of row_key_at near

  abbrev pub BeatTaken : Float × W → Type 0
  BeatTaken e = in_range (range_of Beat) e.0 ≡ true

  -- ---- of any list that rises by row
  falls-nowhere : (change : Float → Float) → ((x y : Float) → T (allowed_beat x) → T (allowed_beat y) → T (lt x y) → not_falling (change x) (change y) ≡ true)
      → (list : List (Float × W)) → Each key BeatTaken list → Rises key list → every_two not_falling (map change (map first list)) ≡ true
  unfolding every neighbours
  falls-nowhere change so [] p r = refl
  falls-nowhere change so (e ∷ []) p r = refl
  falls-nowhere change so (e ∷ f ∷ list) p r =
      let a = taken-allowed e.0 p.0 in
      let b = taken-allowed f.0 p.1.0 in
      rw (so e.0 f.0 a b (beat-rises e.0 f.0 a b r.0.0)) (falls-nowhere change so (f ∷ list) p.1 r.1)

  all-taken : (list : List (Float × W)) → Each key BeatTaken list → all_in (range_of Beat) (map first list) ≡ true
  unfolding every
  all-taken [] p = refl
  all-taken (e ∷ list) p = rw p.0 (all-taken list p.1)

  -- ---- of the mended list
  pub written-rises : (raw : List (Float × W)) → Rises (row_of row_key_at near) (mended_list near raw)
  unfolding mended_list
  written-rises raw = mended-rises (row_of row_key_at near) (nearby row_key_at near) raw

  pub each-written : (P : Float × W → Type 0) (raw : List (Float × W)) → Each (row_of row_key_at near) P raw → Each (row_of row_key_at near) P (mended_list near raw)
  unfolding mended_list
  each-written P raw p = each-mended (row_of row_key_at near) (nearby row_key_at near) P raw p

  module _ (raw : List (Float × W)) (taken : Each key BeatTaken raw) where
    written-taken : Each key BeatTaken (mended_list near raw)
    written-taken = each-written BeatTaken raw taken

    pub beats-taken : all_in (range_of Beat) (map first (mended_list near raw)) ≡ true
    beats-taken = all-taken (mended_list near raw) written-taken

    pub narrowed_never_falls : every_two not_falling (map narrow (map first (mended_list near raw))) ≡ true
    narrowed_never_falls =
        falls-nowhere narrow (λ x y p q l. not_above_lem (narrow x) (narrow y) (narrow-allowed x p) (narrow-allowed y q) (narrow_keeps_order x y (lt_le x y l)))
        (mended_list near raw) written-taken (written-rises raw)

    beats_never_fall : every_two not_falling (map first (mended_list near raw)) ≡ true
    beats_never_fall = rw (← map-id (map first (mended_list near raw))) (falls-nowhere (λ (x : Float). x) (λ x y p q l. not_above_lem x y p q (lt_le x y l)) (mended_list near raw) written-taken (written-rises raw))

    -- so assembly takes the ordered way
    pub ordered_way : never_falls row_key_at (map quantized (map first (mended_list near raw))) ≡ true
    ordered_way = rows_never_fall (map first (mended_list near raw)) beats-taken beats_never_fall
