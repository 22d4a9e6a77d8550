-- Mending a mended list leaves every entry kept, and the list as it is. Assumes nothing.
use mathlib.Core.Path.{◌≡◌, refl, ap, sym, ◌∙◌}
use mathlib.Core.Bool.{Bool, false}
use mathlib.Core.List.{List, [], ◌∷◌, map}
use Prim.Native.Nat.{ℕ, ◌≤◌}
use native.Mathlib.Omega.{arith}
use lib.ListN.{length}
use Rattle.order.specs.Order.{tidied, Rises}
use Rattle.order.proofs.TidiedList.{tidied-still}
use Rattle.mend_fates.specs.Mending.{EntryFate, Kept, Replaced, Merged, thinned_after, thinned, mended, fates, kept_among}
use Rattle.mend_fates.proofs.WrittenList.{near?, thinned-none, thinned-near, thinned-far, mended-tidied, mended-rises}
use Rattle.mend_fates.proofs.KeptAreWritten.{one_each, kept-length}

abbrev all_kept : {A : Type 0} → List A → List EntryFate
all_kept {A} list = map (λ (x : A). Kept) list

-- ---- as many kept as there are: all are kept
kept_at_most : {A : Type 0} (list : List A) (given : List EntryFate) → length (kept_among list given) ≤ length list
unfolding kept_among
kept_at_most [] given = omega arith
kept_at_most (x ∷ list) [] = omega arith
kept_at_most (x ∷ list) (Kept ∷ given) = omega (arith, kept_at_most list given)
kept_at_most (x ∷ list) (Replaced ∷ given) = omega (arith, kept_at_most list given)
kept_at_most (x ∷ list) (Merged ∷ given) = omega (arith, kept_at_most list given)

every-kept : {A : Type 0} (list : List A) (given : List EntryFate) → length given ≡ length list → length (kept_among list given) ≡ length list → given ≡ all_kept list
unfolding kept_among
every-kept [] [] h e = refl
every-kept [] (f ∷ given) h e = absurd (omega arith)
every-kept (x ∷ list) [] h e = absurd (omega arith)
every-kept (x ∷ list) (Kept ∷ given) h e = ap (◌∷◌ Kept) (every-kept list given (omega arith) (omega arith))
every-kept (x ∷ list) (Replaced ∷ given) h e = absurd (omega (arith, kept_at_most list given))
every-kept (x ∷ list) (Merged ∷ given) h e = absurd (omega (arith, kept_at_most list given))

module _ {A : Type 0} (key : A → ℕ) (near : A → A → Bool) where
  -- ---- what is apart stays
  thinned_from_again : (last : A) (list : List A) → thinned_after near last (thinned_after near last list) ≡ thinned_after near last list
  thinned_from_again last [] = rw (thinned-none key near last) (thinned-none key near last)
  thinned_from_again last (x ∷ list) =
      near? key near x last (λ e. rw (thinned-near key near last x list e) (thinned_from_again last list))
      (λ e. rw (thinned-far key near last x list e) (thinned-far key near last x (thinned_after near x list) e ∙ ap (◌∷◌ x) (thinned_from_again x list)))

  thinned-again : (list : List A) → thinned near (thinned near list) ≡ thinned near list
  unfolding thinned
  thinned-again [] = refl
  thinned-again (x ∷ list) = ap (◌∷◌ x) (thinned_from_again x list)

  -- ---- THE LAW
  pub mended-again : (raw : List A) → mended key near (mended key near raw) ≡ mended key near raw
  mended-again raw =
      mended-tidied key near (mended key near raw) ∙ ap (thinned near) (tidied-still key (mended key near raw) (mended-rises key near raw))
      ∙ ap (thinned near) (mended-tidied key near raw) ∙ thinned-again (tidied key raw) ∙ sym (mended-tidied key near raw)

  -- no more are written than there are
  pub no_longer : (raw : List A) → length (mended key near raw) ≤ length raw
  no_longer raw = omega (arith, kept-length key near raw, kept_at_most raw (fates key near raw))

  pub still_kept : (list : List A) → mended key near list ≡ list → fates key near list ≡ all_kept list
  still_kept list e = every-kept list (fates key near list) (one_each key near list) (kept-length key near list ∙ ap length e)

  pub every_entry_kept : (raw : List A) → fates key near (mended key near raw) ≡ all_kept (mended key near raw)
  every_entry_kept raw = still_kept (mended key near raw) (mended-again raw)

  -- ---- a list that rises by row, no entry near the one before it, is left as it is
  abbrev pub ApartFrom : A → List A → Type 0
  ApartFrom last [] = Unit {0}
  ApartFrom last (x ∷ list) = (near x last ≡ false) × ApartFrom x list

  abbrev pub Apart : List A → Type 0
  Apart [] = Unit {0}
  Apart (x ∷ list) = ApartFrom x list

  thinned_from_still : (last : A) (list : List A) → ApartFrom last list → thinned_after near last list ≡ list
  thinned_from_still last [] p = thinned-none key near last
  thinned_from_still last (x ∷ list) p = thinned-far key near last x list p.0 ∙ ap (◌∷◌ x) (thinned_from_still x list p.1)

  thinned-still : (list : List A) → Apart list → thinned near list ≡ list
  unfolding thinned
  thinned-still [] p = refl
  thinned-still (x ∷ list) p = ap (◌∷◌ x) (thinned_from_still x list p)

  pub left_as_it_is : (list : List A) → Rises key list → Apart list → mended key near list ≡ list
  left_as_it_is list r p = mended-tidied key near list ∙ ap (thinned near) (tidied-still key list r) ∙ thinned-still list p
