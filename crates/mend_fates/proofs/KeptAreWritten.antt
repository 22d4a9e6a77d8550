-- Each raw entry has one fate, in raw order, and the kept ones, put in the order of rows, are exactly the written list. Assumes nothing.
use mathlib.Core.Path.{◌≡◌, refl, ap, sym, ◌∙◌}
use mathlib.Core.Bool.{Bool, true, false}
use mathlib.Core.List.{List, [], ◌∷◌}
use mathlib.Core.Logic.{⊎_elim}
use Prim.Native.Nat.{ℕ, zero, suc, ◌+◌, ◌<◌}
use native.Mathlib.Omega.{arith}
use native.Mathlib.Numerals.{add-one}
use borrow.Author.Tests.{eq-eqb, ne_eqb}
use lib.ListN.{length, get_or, drop}
use Rattle.picks.specs.Pick.{pick}
use Rattle.order.specs.Order.{ordered, only, the_last}
use Rattle.order.proofs.Compare.{same?}
use Rattle.order.proofs.OrderedList.{only_nil, only_same, only-other, ordered-length}
use Rattle.order.proofs.TidiedList.{rises_never_falls}
use Rattle.order.proofs.OneOrder.{ordered-one}
use Rattle.mend_fates.specs.Mending.{EntryFate, Kept, Replaced, Merged, is_kept, mended, some_on, last_below, near_one, fate_in, fates_in, fates, kept_among}
use Rattle.mend_fates.proofs.WrittenList.{mended-rises, sifted, only-mended}

module _ {A : Type 0} (key : A → ℕ) (near : A → A → Bool) where
  -- ---- one fate for each, in raw order
  fates-length : (written list : List A) → length (fates_in key near written list) ≡ length list
  unfolding fates_in
  fates-length written [] = refl
  fates-length written (x ∷ list) = ap suc (fates-length written list)

  pub one_each : (raw : List A) → length (fates key near raw) ≡ length raw
  unfolding fates
  one_each raw = fates-length (mended key near raw) raw

  fate_at_lem : (written list : List A) (i : ℕ) (none : A) (other : EntryFate) → i < length list
      → get_or (fates_in key near written list) i other ≡ fate_in key near written (get_or list i none) (drop (i + 1) list)
  unfolding fates_in
  fate_at_lem written [] i none other h = absurd (omega arith)
  fate_at_lem written (x ∷ list) zero none other h = refl
  fate_at_lem written (x ∷ list) (suc i) none other h = rw (add-one (suc i)) (rw (add-one i) at (fate_at_lem written list i none other (omega arith)))

  -- that of the entry at a place, which has those behind it as later ones
  pub fate_of_place : (raw : List A) (i : ℕ) (none : A) (other : EntryFate) → i < length raw
      → get_or (fates key near raw) i other ≡ fate_in key near (mended key near raw) (get_or raw i none) (drop (i + 1) raw)
  unfolding fates
  fate_of_place raw i none other h = fate_at_lem (mended key near raw) raw i none other h

  -- ---- whether there is a later one
  pub some_on_same : (k : ℕ) (x : A) (list : List A) → key x ≡ k → some_on key k (x ∷ list) ≡ true
  unfolding some_on
  some_on_same k x list e = rw (eq-eqb (key x) k e)

  some_on_other : (k : ℕ) (x : A) (list : List A) → (key x ≡ k → ⊥) → some_on key k (x ∷ list) ≡ some_on key k list
  unfolding some_on
  some_on_other k x list n = rw (ne_eqb (key x) k n)

  pub none-on : (k : ℕ) (list : List A) → only key k list ≡ [] → some_on key k list ≡ false
  none-on k [] e = unfold some_on in refl
  none-on k (x ∷ list) e =
      ⊎_elim (λ t. absurd (omega (arith, ap length (sym (only_same key k x list t) ∙ e))))
      (λ n. some_on_other k x list n ∙ none-on k list (sym (only-other key k x list n) ∙ e))
      (same? (key x) k)

  pub some-on : (k : ℕ) (list : List A) (y : A) (more : List A) → only key k list ≡ y ∷ more → some_on key k list ≡ true
  some-on k [] y more e = absurd (omega (arith, ap length (sym (only_nil key k) ∙ e)))
  some-on k (x ∷ list) y more e =
      ⊎_elim (λ t. some_on_same k x list t) (λ n. some_on_other k x list n ∙ some-on k list y more (sym (only-other key k x list n) ∙ e))
      (same? (key x) k)

  -- ---- the kept ones of a row
  kept-first : (x : A) (list : List A) (fate : EntryFate) (rest : List EntryFate) → is_kept fate ≡ true → kept_among (x ∷ list) (fate ∷ rest) ≡ x ∷ kept_among list rest
  unfolding kept_among
  kept-first x list fate rest e = rw e

  kept-other : (x : A) (list : List A) (fate : EntryFate) (rest : List EntryFate) → is_kept fate ≡ false → kept_among (x ∷ list) (fate ∷ rest) ≡ kept_among list rest
  unfolding kept_among
  kept-other x list fate rest e = rw e

  module _ (written : List A) where
    abbrev below : ℕ → List A
    below k = last_below key k [] written

    abbrev kept_in : List A → List A
    kept_in list = kept_among list (fates_in key near written list)

    -- an entry of another row changes nothing
    skipped : (k : ℕ) (x : A) (list : List A) → (key x ≡ k → ⊥) → only key k (kept_in (x ∷ list)) ≡ only key k (kept_in list)
    unfolding fates_in
    skipped k x list n = by (fate_in key near written x list)
      where
        by : (f : EntryFate) → only key k (kept_among (x ∷ list) (f ∷ fates_in key near written list)) ≡ only key k (kept_among list (fates_in key near written list))
        by Kept = unfold kept_among in (only-other key k x (kept_in list) n)
        by Replaced = unfold kept_among in refl
        by Merged = unfold kept_among in refl

    -- one with a later one on its row
    lost : (x : A) (list : List A) → some_on key (key x) list ≡ true → kept_in (x ∷ list) ≡ kept_in list
    unfolding fates_in fate_in kept_among
    lost x list e = rw e

    -- the last of its row
    final : (x : A) (list : List A) → some_on key (key x) list ≡ false → only key (key x) (kept_in list) ≡ []
        → only key (key x) (kept_in (x ∷ list)) ≡ sifted key near (below (key x)) (x ∷ [])
    unfolding fates_in fate_in kept_among sifted
    final x list e none = rw e (by (near_one near x (below (key x))))
      where
        by : (b : Bool) → only key (key x) (pick (is_kept (pick b Merged Kept)) (x ∷ kept_in list) (kept_in list)) ≡ pick b [] (x ∷ [])
        by true = none
        by false = only_same key (key x) x (kept_in list) refl ∙ ap (◌∷◌ x) none

    the_last_more : (x y : A) (list : List A) → the_last [] (x ∷ y ∷ list) ≡ the_last [] (y ∷ list)
    unfolding the_last
    the_last_more x y list = refl

    pub only_kept : (k : ℕ) (list : List A) → only key k (kept_in list) ≡ sifted key near (below k) (the_last [] (only key k list))
    only_kept k [] = unfold kept_among the_last sifted only in refl
    only_kept k (x ∷ list) =
        ⊎_elim (λ t. rw (← t) (on_its_row_lem (only key (key x) list) refl (rw (← t) at (only_kept k list))))
        (λ n. rw (only-other key k x list n) (skipped k x list n ∙ only_kept k list))
        (same? (key x) k)
      where
        on_its_row_lem : (m : List A) → only key (key x) list ≡ m → only key (key x) (kept_in list) ≡ sifted key near (below (key x)) (the_last [] (only key (key x) list))
            → only key (key x) (kept_in (x ∷ list)) ≡ sifted key near (below (key x)) (the_last [] (only key (key x) (x ∷ list)))
        on_its_row_lem [] e rest =
            rw (only_same key (key x) x list refl, e)
            (final x list (none-on (key x) list e) (rest ∙ ap (λ (m : List A). sifted key near (below (key x)) (the_last [] m)) e ∙ unfold the_last sifted in refl)
            ∙ unfold the_last in refl)
        on_its_row_lem (y ∷ m) e rest =
            rw (only_same key (key x) x list refl, e)
            (ap (only key (key x)) (lost x list (some-on (key x) list y m e)) ∙ rest
            ∙ ap (λ (l : List A). sifted key near (below (key x)) (the_last [] l)) e ∙ ap (sifted key near (below (key x))) (sym (the_last_more x y m)))

  -- ---- THE LAW
  pub kept_are_written : (raw : List A) → ordered key (kept_among raw (fates key near raw)) ≡ mended key near raw
  unfolding fates
  kept_are_written raw =
      sym (ordered-one key (kept_among raw (fates_in key near (mended key near raw) raw)) (mended key near raw) (rises_never_falls key (mended key near raw) (mended-rises key near raw))
      (λ k. only-mended key near k raw ∙ sym (only_kept (mended key near raw) k raw)))

  -- as many as are kept are written
  pub kept-length : (raw : List A) → length (kept_among raw (fates key near raw)) ≡ length (mended key near raw)
  kept-length raw = sym (ordered-length key (kept_among raw (fates key near raw))) ∙ ap length (kept_are_written raw)
