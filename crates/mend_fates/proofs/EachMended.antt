-- What holds of every raw entry holds of those that are written. Assumes nothing.
use Prim.Native.Nat.{ℕ}
use mathlib.Core.Bool.{Bool}
use mathlib.Core.List.{List, [], ◌∷◌}
use Rattle.order.specs.Order.{tidied}
use Rattle.order.proofs.OrderedList.{Each}
use Rattle.order.proofs.EachEntry.{each-tidied}
use Rattle.mend_fates.specs.Mending.{thinned_after, thinned, mended}
use Rattle.mend_fates.proofs.WrittenList.{near?, thinned-none, thinned-near, thinned-far, mended-tidied}

module _ {A : Type 0} (key : A → ℕ) (near : A → A → Bool) (P : A → Type 0) where
  each_thinned_from : (last : A) (list : List A) → Each key P list → Each key P (thinned_after near last list)
  each_thinned_from last [] p = rw (thinned-none key near last) tt
  each_thinned_from last (x ∷ list) p =
      near? key near x last (λ e. rw (thinned-near key near last x list e) (each_thinned_from last list p.1)) (λ e. rw (thinned-far key near last x list e) (p.0, each_thinned_from x list p.1))

  each-thinned : (list : List A) → Each key P list → Each key P (thinned near list)
  unfolding thinned
  each-thinned [] p = tt
  each-thinned (x ∷ list) p = (p.0, each_thinned_from x list p.1)

  pub each-mended : (raw : List A) → Each key P raw → Each key P (mended key near raw)
  each-mended raw p = rw (mended-tidied key near raw) (each-thinned (tidied key raw) (each-tidied key P raw p))
