-- A list mended by other names: entries that stand for others, with the rows and the nearness of those. Assumes nothing.
use mathlib.Core.Path.{◌≡◌, refl, ap, ◌∙◌}
use mathlib.Core.Bool.{Bool, true, false}
use mathlib.Core.List.{List, [], ◌∷◌, map}
use Prim.Native.Nat.{ℕ}
use lib.Dec.{ltb, eqb}
use Rattle.picks.specs.Pick.{pick}
use Rattle.order.specs.Order.{ordered, lasts}
use Rattle.order.proofs.OrderedList.{ordered-map}
use Rattle.order.proofs.LastEntries.{lasts-map}
use Rattle.mend_fates.specs.Mending.{Kept, Replaced, Merged, thinned_after, thinned, mended, some_on, last_below, near_one, fate_in}
use Rattle.mend_fates.proofs.WrittenList.{near?, thinned-none, thinned-near, thinned-far}

module _ {A B : Type 0} (g : A → B) (key : B → ℕ) (near : B → B → Bool) where
  abbrev pub row_of : A → ℕ
  row_of x = key (g x)

  abbrev pub near_by : A → A → Bool
  near_by x y = near (g x) (g y)

  thinned_from_map : (last : A) (list : List A) → thinned_after near (g last) (map g list) ≡ map g (thinned_after near_by last list)
  thinned_from_map last [] = rw (thinned-none key near (g last), thinned-none row_of near_by last)
  thinned_from_map last (x ∷ list) =
      near? row_of near_by x last
      (λ e. rw (thinned-near key near (g last) (g x) (map g list) e, thinned-near row_of near_by last x list e) (thinned_from_map last list))
      (λ e. rw (thinned-far key near (g last) (g x) (map g list) e, thinned-far row_of near_by last x list e) (ap (◌∷◌ (g x)) (thinned_from_map x list)))

  thinned-map : (list : List A) → thinned near (map g list) ≡ map g (thinned near_by list)
  unfolding thinned
  thinned-map [] = refl
  thinned-map (x ∷ list) = ap (◌∷◌ (g x)) (thinned_from_map x list)

  pub mended-map : (raw : List A) → mended key near (map g raw) ≡ map g (mended row_of near_by raw)
  unfolding mended
  mended-map raw =
      ap (λ (l : List B). thinned near (lasts key l)) (ordered-map g key raw) ∙ ap (thinned near) (lasts-map g key (ordered row_of raw))
      ∙ thinned-map (lasts row_of (ordered row_of raw))

  some_on_map : (k : ℕ) (list : List A) → some_on key k (map g list) ≡ some_on row_of k list
  unfolding some_on
  some_on_map k [] = refl
  some_on_map k (x ∷ list) = ap (λ (b : Bool). pick (eqb (key (g x)) k) true b) (some_on_map k list)

  last_below_map : (k : ℕ) (other list : List A) → last_below key k (map g other) (map g list) ≡ map g (last_below row_of k other list)
  unfolding last_below
  last_below_map k other [] = refl
  last_below_map k other (x ∷ list) = ap (λ (l : List B). last_below key k l (map g list)) (by (ltb (key (g x)) k)) ∙ last_below_map k (pick (ltb (key (g x)) k) (x ∷ []) other) list
    where
      by : (b : Bool) → pick b (g x ∷ []) (map g other) ≡ map g (pick b (x ∷ []) other)
      by true = refl
      by false = refl

  near_one_map : (x : A) (list : List A) → near_one near (g x) (map g list) ≡ near_one near_by x list
  unfolding near_one
  near_one_map x [] = refl
  near_one_map x (y ∷ list) = refl

  pub fate_map : (written : List A) (x : A) (later : List A) → fate_in key near (map g written) (g x) (map g later) ≡ fate_in row_of near_by written x later
  unfolding fate_in
  fate_map written x later =
      ap (λ (b : Bool). pick b Replaced (pick (near_one near (g x) (last_below key (key (g x)) [] (map g written))) Merged Kept)) (some_on_map (key (g x)) later)
      ∙ ap (λ (b : Bool). pick (some_on row_of (key (g x)) later) Replaced (pick b Merged Kept))
      (ap (near_one near (g x)) (last_below_map (key (g x)) [] written) ∙ near_one_map x (last_below row_of (key (g x)) [] written))
