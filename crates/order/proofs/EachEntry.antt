-- What holds of every entry of a list: it holds of those that are kept, and where it is that two keys agree, the entries rise, are found and are tidied by either.
-- Assumes nothing.
use mathlib.Core.Path.{◌≡◌, refl, ap, sym, ◌∙◌}
use mathlib.Core.List.{List, [], ◌∷◌, map}
use mathlib.Core.Logic.{⊎_elim}
use Prim.Native.Nat.{ℕ, min}
use native.Mathlib.Omega.{arith}
use lib.ListN.{length}
use Rattle.order.specs.Order.{ordered, tidied, lasts, only, the_last, Above, Rises}
use Rattle.order.proofs.Compare.{same?}
use Rattle.order.proofs.OrderedList.{Each, each-ordered, ordered-agree, only_nil, only_same, only-other}
use Rattle.order.proofs.TidiedList.{lasts_nil, lasts-one, lasts-same, lasts-other, lasts-ordered}

pub each_so : {A : Type 0} (key : A → ℕ) {P Q : A → Type 0} → ((x : A) → P x → Q x) → (l : List A) → Each key P l → Each key Q l
each_so key so [] p = tt
each_so key so (x ∷ l) p = (so x p.0, each_so key so l p.1)

-- ---- of the kept entries
module _ {A : Type 0} (key : A → ℕ) (P : A → Type 0) where
  each-lasts : (l : List A) → Each key P l → Each key P (lasts key l)
  each-lasts [] p = rw (lasts_nil key) tt
  each-lasts (x ∷ []) p = rw (lasts-one key x) p
  each-lasts (x ∷ y ∷ l) p =
      ⊎_elim (λ e. rw (lasts-same key x y l e) (each-lasts (y ∷ l) p.1)) (λ n. rw (lasts-other key x y l n) (p.0, each-lasts (y ∷ l) p.1))
      (same? (key x) (key y))

  pub each-tidied : (l : List A) → Each key P l → Each key P (tidied key l)
  each-tidied l p = rw (← lasts-ordered key l) (each-lasts (ordered key l) (each-ordered key P l p))

-- ---- of keys that agree on every entry, and of answers that do
module _ {A : Type 0} (key other : A → ℕ) where
  lasts-agree : (l : List A) → Each key (λ (x : A). key x ≡ other x) l → lasts key l ≡ lasts other l
  lasts-agree [] p = rw (lasts_nil key, lasts_nil other)
  lasts-agree (x ∷ []) p = rw (lasts-one key x, lasts-one other x)
  lasts-agree (x ∷ y ∷ l) p =
      ⊎_elim (λ e. rw (lasts-same key x y l e, lasts-same other x y l (sym p.0 ∙ e ∙ p.1.0)) (lasts-agree (y ∷ l) p.1))
      (λ n. rw (lasts-other key x y l n, lasts-other other x y l (λ e. n (p.0 ∙ e ∙ sym p.1.0))) (ap (◌∷◌ x) (lasts-agree (y ∷ l) p.1)))
      (same? (key x) (key y))

  pub tidied-agree : (l : List A) → Each key (λ (x : A). key x ≡ other x) l → tidied key l ≡ tidied other l
  tidied-agree l p =
      sym (lasts-ordered key l) ∙ lasts-agree (ordered key l) (each-ordered key (λ (x : A). key x ≡ other x) l p)
      ∙ ap (lasts other) (ordered-agree key other l p) ∙ lasts-ordered other l

pub map-agree : {A B : Type 0} (key : A → ℕ) (f g : A → B) (l : List A) → Each key (λ (x : A). f x ≡ g x) l → map f l ≡ map g l
map-agree key f g [] p = refl
map-agree key f g (x ∷ l) p = rw (p.0, map-agree key f g l p.1)

-- ---- of entries by other names, whose keys agree
module _ {A B : Type 0} (g : A → B) (key : A → ℕ) (other : B → ℕ) where
  above_map : (k : ℕ) (l : List A) → Each key (λ (x : A). other (g x) ≡ key x) l → Above key k l → Above other k (map g l)
  above_map k [] p a = tt
  above_map k (x ∷ l) p a = (omega (arith, p.0, a.0), above_map k l p.1 a.1)

  pub rises-map : (l : List A) → Each key (λ (x : A). other (g x) ≡ key x) l → Rises key l → Rises other (map g l)
  rises-map [] p r = tt
  rises-map (x ∷ l) p r = (rw p.0 (above_map (key x) l p.1 r.0), rises-map l p.1 r.1)

  pub only-map : (k : ℕ) (l : List A) → Each key (λ (x : A). other (g x) ≡ key x) l → only other k (map g l) ≡ map g (only key k l)
  only-map k [] p = rw (only_nil key k, only_nil other k)
  only-map k (x ∷ l) p =
      ⊎_elim (λ e. rw (only_same key k x l e, only_same other k (g x) (map g l) (p.0 ∙ e)) (ap (◌∷◌ (g x)) (only-map k l p.1)))
      (λ n. rw (only-other key k x l n, only-other other k (g x) (map g l) (λ e. n (sym p.0 ∙ e))) (only-map k l p.1))
      (same? (key x) k)

-- ---- the last of a list
pub length_the_last : {A : Type 0} (l : List A) → length (the_last [] l) ≡ min 1 (length l)
unfolding the_last
length_the_last [] = refl
length_the_last {A} (x ∷ l) = one x l ∙ omega arith
  where
    one : (x : A) (l : List A) → length (the_last (x ∷ []) l) ≡ 1
    one x [] = refl
    one x (y ∷ l) = one y l
