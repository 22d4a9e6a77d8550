-- The written list rises strictly by row, no entry of it is near the one before, and of each row it has the last raw entry or none. Assumes nothing.
use mathlib.Core.Path.{◌≡◌, refl, ap, sym, subst, ◌∙◌}
use mathlib.Core.Bool.{Bool, true, false}
use mathlib.Core.List.{List, [], ◌∷◌}
use mathlib.Core.Logic.{⊎_elim}
use Prim.Native.Nat.{ℕ, suc, ◌≤◌, ◌<◌}
use native.Mathlib.Omega.{arith}
use borrow.Author.Tests.{lt-ltb, le-ltb}
use Rattle.picks.specs.Pick.{pick}
use Rattle.order.specs.Order.{tidied, only, the_last, From, Above, Rises}
use Rattle.order.proofs.Compare.{tri}
use Rattle.order.proofs.OrderedList.{only_nil, only_same, only-other, only_above}
use Rattle.order.proofs.TidiedList.{lasts-ordered, tidied-rises, only-tidied}
use Rattle.mend_fates.specs.Mending.{thinned_after, thinned, mended, last_below, near_one}

module _ {A : Type 0} (key : A → ℕ) (near : A → A → Bool) where
  -- ---- one entry
  pub thinned-near : (last x : A) (list : List A) → near x last ≡ true → thinned_after near last (x ∷ list) ≡ thinned_after near last list
  unfolding thinned_after
  thinned-near last x list e = rw e

  pub thinned-far : (last x : A) (list : List A) → near x last ≡ false → thinned_after near last (x ∷ list) ≡ x ∷ thinned_after near x list
  unfolding thinned_after
  thinned-far last x list e = rw e

  pub thinned-none : (last : A) → thinned_after near last [] ≡ []
  unfolding thinned_after
  thinned-none last = refl

  -- a test, as a fact
  pub near? : {P : Type 0} (x y : A) → (near x y ≡ true → P) → (near x y ≡ false → P) → P
  near? {P} x y so not = by (near x y) refl
    where
      by : (b : Bool) → near x y ≡ b → P
      by true e = so e
      by false e = not e

  -- ---- it rises
  pub above-thinned : (k : ℕ) (last : A) (list : List A) → Above key k list → Above key k (thinned_after near last list)
  above-thinned k last [] p = rw (thinned-none last) tt
  above-thinned k last (x ∷ list) p =
      near? x last (λ e. rw (thinned-near last x list e) (above-thinned k last list p.1)) (λ e. rw (thinned-far last x list e) (p.0, above-thinned k x list p.1))

  rises-thinned : (last : A) (list : List A) → Rises key list → Rises key (thinned_after near last list)
  rises-thinned last [] p = rw (thinned-none last) tt
  rises-thinned last (x ∷ list) p =
      near? x last (λ e. rw (thinned-near last x list e) (rises-thinned last list p.1))
      (λ e. rw (thinned-far last x list e) (above-thinned (key x) x list p.0, rises-thinned x list p.1))

  thinned-rises : (list : List A) → Rises key list → Rises key (thinned near list)
  unfolding thinned
  thinned-rises [] p = tt
  thinned-rises (x ∷ list) p = (above-thinned (key x) x list p.0, rises-thinned x list p.1)

  pub mended-tidied : (raw : List A) → mended key near raw ≡ thinned near (tidied key raw)
  unfolding mended
  mended-tidied raw = ap (thinned near) (lasts-ordered key raw)

  pub mended-rises : (raw : List A) → Rises key (mended key near raw)
  mended-rises raw = rw (mended-tidied raw) (thinned-rises (tidied key raw) (tidied-rises key raw))

  -- ---- the last one below a row
  pub last-below : (k : ℕ) (other : List A) (x : A) (list : List A) → key x < k → last_below key k other (x ∷ list) ≡ last_below key k (x ∷ []) list
  unfolding last_below
  last-below k other x list h = rw (lt-ltb (key x) k h)

  pub last_not_below : (k : ℕ) (other : List A) (x : A) (list : List A) → k ≤ key x → last_below key k other (x ∷ list) ≡ last_below key k other list
  unfolding last_below
  last_not_below k other x list h = rw (le-ltb (key x) k h)

  pub last-above : (k : ℕ) (other list : List A) → Above key k list → last_below key k other list ≡ other
  last-above k other [] p = unfold last_below in refl
  last-above k other (x ∷ list) p = last_not_below k other x list (omega (arith, p.0)) ∙ last-above k other list p.1

  -- ---- of one row: what is not near the last one kept below
  unfoldable pub sifted : List A → List A → List A
  sifted before [] = []
  sifted before (x ∷ list) = pick (near_one near x before) (sifted before list) (x ∷ sifted before list)

  sifted_one_near : (last x : A) → near x last ≡ true → sifted (last ∷ []) (x ∷ []) ≡ []
  unfolding sifted near_one
  sifted_one_near last x e = rw e

  sifted_one_far : (last x : A) → near x last ≡ false → sifted (last ∷ []) (x ∷ []) ≡ x ∷ []
  unfolding sifted near_one
  sifted_one_far last x e = rw e

  pub sifted-none : (before : List A) → sifted before [] ≡ []
  unfolding sifted
  sifted-none before = refl

  sifted-first : (x : A) → sifted [] (x ∷ []) ≡ x ∷ []
  unfolding sifted near_one
  sifted-first x = refl

  above_from : (k : ℕ) (list : List A) → Above key k list → From key (suc k) list
  above_from k [] p = tt
  above_from k (x ∷ list) p = (p.0, above_from k list p.1)

  only_none : (k : ℕ) (list : List A) → Above key k list → only key k list ≡ []
  only_none k list p = only_above key k list (above_from k list p)

  above_le : (j k : ℕ) (list : List A) → j ≤ k → Above key k list → Above key j list
  above_le j k [] h p = tt
  above_le j k (x ∷ list) h p = (omega (arith, p.0), above_le j k list h p.1)

  only_thinned_from : (k : ℕ) (last : A) (list : List A) → key last < k → Rises key list
      → only key k (thinned_after near last list) ≡ sifted (last_below key k (last ∷ []) (thinned_after near last list)) (only key k list)
  only_thinned_from k last [] h p = rw (thinned-none last, only_nil key k) (sym (sifted-none _))
  only_thinned_from k last (x ∷ list) h p =
      ⊎_elim
      (λ t.
      rw (only-other key k x list (omega arith))
      (near? x last (λ e. rw (thinned-near last x list e) (only_thinned_from k last list h p.1))
      (λ e. rw (thinned-far last x list e, only-other key k x (thinned_after near x list) (omega arith), last-below k (last ∷ []) x (thinned_after near x list) t) (only_thinned_from k x list t p.1))))
      (⊎_elim
      (λ t.
      let rest : Above key k list = subst (λ (j : ℕ). Above key j list) t p.0 in
      rw (only_same key k x list t, only_none k list rest)
      (near? x last
      (λ e. rw (thinned-near last x list e, only_none k (thinned_after near last list) (above-thinned k last list rest), last-above k (last ∷ []) (thinned_after near last list) (above-thinned k last list rest))
      (sym (sifted_one_near last x e)))
      (λ e. rw (thinned-far last x list e, only_same key k x (thinned_after near x list) t, only_none k (thinned_after near x list) (above-thinned k x list rest), last_not_below k (last ∷ []) x (thinned_after near x list) (omega arith), last-above k (last ∷ []) (thinned_after near x list) (above-thinned k x list rest))
      (sym (sifted_one_far last x e)))))
      (λ t.
      let rest : Above key k (x ∷ list) = (t, above_le k (key x) list (omega arith) p.0) in
      rw (only_none k (x ∷ list) rest, only_none k (thinned_after near last (x ∷ list)) (above-thinned k last (x ∷ list) rest)) (sym (sifted-none _))))
      (tri (key x) k)

  only-thinned : (k : ℕ) (list : List A) → Rises key list → only key k (thinned near list) ≡ sifted (last_below key k [] (thinned near list)) (only key k list)
  unfolding thinned
  only-thinned k [] p = rw (only_nil key k) (sym (sifted-none _))
  only-thinned k (x ∷ list) p =
      ⊎_elim
      (λ t. rw (only-other key k x list (omega arith), only-other key k x (thinned_after near x list) (omega arith), last-below k [] x (thinned_after near x list) t) (only_thinned_from k x list t p.1))
      (⊎_elim
      (λ t.
      let rest : Above key k list = subst (λ (j : ℕ). Above key j list) t p.0 in
      rw (only_same key k x list t, only_none k list rest, only_same key k x (thinned_after near x list) t, only_none k (thinned_after near x list) (above-thinned k x list rest), last_not_below k [] x (thinned_after near x list) (omega arith), last-above k [] (thinned_after near x list) (above-thinned k x list rest))
      (sym (sifted-first x)))
      (λ t.
      let rest : Above key k list = above_le k (key x) list (omega arith) p.0 in
      rw (only_none k (x ∷ list) (t, rest), only_none k (x ∷ thinned_after near x list) (t, above-thinned k x list rest)) (sym (sifted-none _))))
      (tri (key x) k)

  -- of each row the last raw entry, unless that is near the last one kept below
  pub only-mended : (k : ℕ) (raw : List A) → only key k (mended key near raw) ≡ sifted (last_below key k [] (mended key near raw)) (the_last [] (only key k raw))
  only-mended k raw =
      let by = only-thinned k (tidied key raw) (tidied-rises key raw) in
      rw (mended-tidied raw) (by ∙ ap (sifted (last_below key k [] (thinned near (tidied key raw)))) (only-tidied key k raw))
