-- Falls counted over neighbouring entries: where there is none, the list never falls. Assumes nothing.
use mathlib.Core.Path.{◌≡◌, refl, sym, ◌∙◌}
use mathlib.Core.Bool.{true}
use mathlib.Core.List.{List, [], ◌∷◌}
use mathlib.Core.Logic.{⊎_elim}
use Prim.Native.Nat.{ℕ, suc, ◌+◌, ◌≤◌, ◌<◌}
use native.Mathlib.Omega.{arith}
use native.Mathlib.Numerals.{add-one}
use borrow.Author.Tests.{lt-ltb, le-ltb, le-leb}
use lib.Dec.{ltb}
use lib.ListN.{length, get_or, drop, length-drop}
use lib.Seq.{drop-cons}
use Rattle.picks.specs.Pick.{pick}
use Rattle.order.specs.Order.{may_precede, never_falls}
use Rattle.order.proofs.Compare.{below?}

-- ---- one fall, as 0 or 1
pub fall-few : (a b : ℕ) {fall : ℕ} → fall ≡ pick (ltb a b) 1 0 → fall ≤ 1
fall-few a b e = ⊎_elim (λ t. omega (arith, rw (lt-ltb a b t) at e)) (λ t. omega (arith, rw (le-ltb a b t) at e)) (below? a b)

no-fall : (a b : ℕ) {fall : ℕ} → fall ≡ pick (ltb a b) 1 0 → fall ≡ 0 → b ≤ a
no-fall a b e z = ⊎_elim (λ t. absurd (omega (arith, rw (lt-ltb a b t) at e))) (λ t. t) (below? a b)

-- ---- all of them
module _ {A : Type 0} (key : A → ℕ) where
  -- after i neighbours, of which so many fall to the next
  pub record Falls (xs : List A) (i falls : ℕ) : Type 0 where
    pub few : falls ≤ i
    pub order : falls ≡ 0 → never_falls key (drop i xs) ≡ never_falls key xs

  pub falls-none : {xs : List A} → Falls xs 0 0
  falls-none = record { few = omega arith; order = λ e. refl }

  module _ (none : A) (xs : List A) (i : ℕ) where
    pair : i + 1 < length xs → drop i xs ≡ get_or xs i none ∷ get_or xs (i + 1) none ∷ drop (suc (suc i)) xs
    pair h = rw (add-one i, drop-cons xs i none (omega arith), drop-cons xs (suc i) none (omega arith))

    goes_on : i + 1 < length xs → key (get_or xs i none) ≤ key (get_or xs (i + 1) none) → never_falls key (drop (i + 1) xs) ≡ never_falls key (drop i xs)
    unfolding never_falls may_precede
    goes_on h t =
        let next : drop (i + 1) xs ≡ get_or xs (i + 1) none ∷ drop (suc (suc i)) xs = rw (add-one i) (drop-cons xs (suc i) none (omega arith)) in
        rw (pair h, next, le-leb (key (get_or xs i none)) (key (get_or xs (i + 1) none)) t)

  pub falls-turn : (none : A) {xs : List A} {i falls fall : ℕ} → i + 1 < length xs → fall ≡ pick (ltb (key (get_or xs (i + 1) none)) (key (get_or xs i none))) 1 0
      → Falls xs i falls → Falls xs (i + 1) (falls + fall)
  falls-turn none {xs} {i} h e p =
      let a = key (get_or xs (i + 1) none) in
      let b = key (get_or xs i none) in
      record {
        few = omega (arith, p.few, fall-few a b e);
        order = λ z. goes_on none xs i h (no-fall a b e (omega (arith, z))) ∙ p.order (omega (arith, z));
      }

  short_never_falls : (l : List A) → length l ≤ 1 → never_falls key l ≡ true
  unfolding never_falls may_precede
  short_never_falls [] h = refl
  short_never_falls (x ∷ []) h = refl
  short_never_falls (x ∷ y ∷ l) h = absurd (omega arith)

  pub falls-all : {xs : List A} {i falls : ℕ} → length xs ≤ i + 1 → Falls xs i falls → falls ≡ 0 → never_falls key xs ≡ true
  falls-all {xs} {i} h p z = sym (p.order z) ∙ short_never_falls (drop i xs) (simp length-drop (omega arith))
