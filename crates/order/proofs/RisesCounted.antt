-- Falls and repeats counted together over neighbouring entries: where each two are one of them, the list never rises. Assumes nothing.
use mathlib.Core.Path.{◌≡◌, refl, sym, ◌∙◌}
use mathlib.Core.Bool.{true}
use mathlib.Core.List.{List, [], ◌∷◌}
use mathlib.Core.Logic.{⊎_elim}
use Prim.Native.Nat.{ℕ, suc, ◌+◌, ◌≤◌, ◌<◌}
use native.Mathlib.Omega.{arith}
use native.Mathlib.Numerals.{add-one}
use borrow.Author.Tests.{lt-ltb, le-ltb, le-leb, eq-eqb, ne_eqb}
use lib.Dec.{ltb, eqb}
use lib.ListN.{length, get_or, drop, length-drop}
use lib.Seq.{drop-cons}
use Rattle.picks.specs.Pick.{pick}
use Rattle.order.specs.Order.{may_follow, never_rises}
use Rattle.order.proofs.Compare.{below?, same?}

-- ---- one fall and one repeat, as 0 or 1: not both, and where neither, the key rises
module _ (a b : ℕ) {fall same : ℕ} (e : fall ≡ pick (ltb b a) 1 0) (s : same ≡ pick (eqb a b) 1 0) where
  pub one_of_them : fall + same ≤ 1
  one_of_them =
      ⊎_elim (λ t. let n : (a ≡ b → ⊥) = λ q. omega (arith, t, q) in omega (arith, rw (lt-ltb b a t) at e, rw (ne_eqb a b n) at s))
      (λ t. ⊎_elim (λ q. omega (arith, rw (le-ltb b a t) at e, rw (eq-eqb a b q) at s)) (λ n. omega (arith, rw (le-ltb b a t) at e, rw (ne_eqb a b n) at s)) (same? a b)) (below? b a)

  no-rise : fall + same ≡ 1 → b ≤ a
  no-rise h =
      ⊎_elim (λ t. omega (arith, t))
      (λ t. ⊎_elim (λ q. omega (arith, q)) (λ n. absurd (omega (arith, rw (le-ltb b a t) at e, rw (ne_eqb a b n) at s))) (same? a b)) (below? b a)

-- ---- all of them
module _ {A : Type 0} (key : A → ℕ) where
  -- after i neighbours, of which so many fall to the next or repeat it
  pub record Unrisen (xs : List A) (i both : ℕ) : Type 0 where
    pub few : both ≤ i
    pub order : both ≡ i → never_rises key (drop i xs) ≡ never_rises key xs

  pub unrisen_none : {xs : List A} → Unrisen xs 0 0
  unrisen_none = record { few = omega arith; order = λ e. refl }

  module _ (none : A) (xs : List A) (i : ℕ) where
    pair : i + 1 < length xs → drop i xs ≡ get_or xs i none ∷ get_or xs (i + 1) none ∷ drop (suc (suc i)) xs
    pair h = rw (add-one i, drop-cons xs i none (omega arith), drop-cons xs (suc i) none (omega arith))

    goes_on : i + 1 < length xs → key (get_or xs (i + 1) none) ≤ key (get_or xs i none) → never_rises key (drop (i + 1) xs) ≡ never_rises key (drop i xs)
    unfolding never_rises may_follow
    goes_on h t =
        let next : drop (i + 1) xs ≡ get_or xs (i + 1) none ∷ drop (suc (suc i)) xs = rw (add-one i) (drop-cons xs (suc i) none (omega arith)) in
        rw (pair h, next, le-leb (key (get_or xs (i + 1) none)) (key (get_or xs i none)) t)

  pub unrisen_turn : (none : A) (falls repeats : ℕ) {xs : List A} {i fall same : ℕ} → i + 1 < length xs
      → fall ≡ pick (ltb (key (get_or xs (i + 1) none)) (key (get_or xs i none))) 1 0
      → same ≡ pick (eqb (key (get_or xs i none)) (key (get_or xs (i + 1) none))) 1 0
      → Unrisen xs i (falls + repeats) → Unrisen xs (i + 1) ((falls + fall) + (repeats + same))
  unrisen_turn none falls repeats {xs} {i} h e s p =
      let a = key (get_or xs i none) in
      let b = key (get_or xs (i + 1) none) in
      record {
        few = omega (arith, p.few, one_of_them a b e s);
        order = λ z. goes_on none xs i h (no-rise a b e s (omega (arith, z, p.few, one_of_them a b e s))) ∙ p.order (omega (arith, z, p.few, one_of_them a b e s));
      }

  short_never_rises : (l : List A) → length l ≤ 1 → never_rises key l ≡ true
  unfolding never_rises may_follow
  short_never_rises [] h = refl
  short_never_rises (x ∷ []) h = refl
  short_never_rises (x ∷ y ∷ l) h = absurd (omega arith)

  pub unrisen_all : {xs : List A} {i both : ℕ} → length xs ≤ i + 1 → Unrisen xs i both → both ≡ i → never_rises key xs ≡ true
  unrisen_all {xs} {i} h p z = sym (p.order z) ∙ short_never_rises (drop i xs) (simp length-drop (omega arith))
