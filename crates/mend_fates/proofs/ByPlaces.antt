-- The walk over the places of a raw list, put in the stable order of their rows: the fate that it gives a place is that of the raw entry there. Assumes nothing.
use mathlib.Core.Path.{◌≡◌, refl, ap, sym, subst, ◌∙◌}
use mathlib.Core.Bool.{Bool}
use mathlib.Core.List.{List, [], ◌∷◌, ◌++◌, map}
use mathlib.Core.Logic.{⊎_elim}
use Prim.Native.Nat.{ℕ, zero, suc, ◌+◌, ◌-◌, ◌≤◌, ◌<◌}
use native.Mathlib.Omega.{arith}
use native.Mathlib.Nat.{zero-add}
use native.Mathlib.Numerals.{add-one}
use borrow.Author.Tests.{lt-ltb, le-ltb}
use lib.Dec.{ltb}
use lib.ListN.{length, get_or, take, drop, take-append-drop}
use Rattle.picks.specs.Pick.{pick}
use Rattle.order.specs.Order.{ordered, only, the_last, Above, Rises}
use Rattle.order.specs.Entries.{places_from, places}
use Rattle.order.proofs.Compare.{below?, same?}
use Rattle.order.proofs.OrderedList.{only_nil, only_same, only-other, only-append, only-ordered, ordered-length, Each, each-ordered}
use Rattle.order_sort.proofs.GatheredByPlaces.{places-length, read-places}
use Rattle.tidy_rows_sort.proofs.PlacesInOrder.{each-places}
use Rattle.mend_fates.specs.Mending.{EntryFate, Kept, Replaced, Merged, mended, some_on, last_below, near_one, fate_in, fates}
use Rattle.mend_fates.specs.inside.Walking.{walk_fate}
use Rattle.mend_fates.proofs.KeptAreWritten.{none-on, some-on, fate_of_place}
use Rattle.mend_fates.proofs.OneWalk.{Walked, walk_fate_lem}
use Rattle.mend_fates.proofs.OtherNames.{mended-map, fate_map}

-- ---- places, those behind one of them
abbrev self : ℕ → ℕ
self p = p

unfoldable behind : ℕ → List ℕ → List ℕ
behind p [] = []
behind p (q ∷ list) = pick (ltb p q) (q ∷ behind p list) (behind p list)

behind_more : (p q : ℕ) (list : List ℕ) → p < q → behind p (q ∷ list) ≡ q ∷ behind p list
unfolding behind
behind_more p q list h = rw (lt-ltb p q h)

behind-less : (p q : ℕ) (list : List ℕ) → q ≤ p → behind p (q ∷ list) ≡ behind p list
unfolding behind
behind-less p q list h = rw (le-ltb p q h)

behind-all : (p : ℕ) (list : List ℕ) → Above self p list → behind p list ≡ list
behind-all p [] a = unfold behind in refl
behind-all p (q ∷ list) a = behind_more p q list a.0 ∙ ap (◌∷◌ q) (behind-all p list a.1)

above-mid : (k p : ℕ) (a b : List ℕ) → Above self k (a ++ p ∷ b) → k < p
above-mid k p [] b h = h.0
above-mid k p (x ∷ a) b h = above-mid k p a b h.1

behind-split : (p : ℕ) (a b : List ℕ) → Rises self (a ++ p ∷ b) → behind p (a ++ p ∷ b) ≡ b
behind-split p [] b r = behind-less p p b (omega arith) ∙ behind-all p b r.0
behind-split p (x ∷ a) b r = behind-less p x (a ++ p ∷ b) (omega (arith, above-mid x p a b r.0)) ∙ behind-split p a b r.1

above-less : (j k : ℕ) (list : List ℕ) → j ≤ k → Above self k list → Above self j list
above-less j k [] h a = tt
above-less j k (x ∷ list) h a = (omega (arith, a.0), above-less j k list h a.1)

above-places : (k at n : ℕ) → k < at → Above self k (places_from at n)
unfolding places_from
above-places k at zero h = tt
above-places k at (suc n) h = (h, above-places k (suc at) n (omega arith))

rises-places : (at n : ℕ) → Rises self (places_from at n)
unfolding places_from
rises-places at zero = tt
rises-places at (suc n) = (above-places at (suc at) n (omega arith), rises-places (suc at) n)

behind_places : (p at n : ℕ) → at ≤ p → p < at + n → behind p (places_from at n) ≡ places_from (suc p) (at + n - suc p)
behind_places p at zero h k = absurd (omega arith)
behind_places p at (suc n) h k =
    ⊎_elim (λ t. first ∙ behind-less p at (places_from (suc at) n) h ∙ behind_places p (suc at) n t (omega arith) ∙ ap (places_from (suc p)) more)
    (λ t. first ∙ behind-less p at (places_from (suc at) n) h ∙ behind-all p (places_from (suc at) n) (above-places p (suc at) n (omega arith)) ∙ same t)
    (below? at p)
  where
    first : behind p (places_from at (suc n)) ≡ behind p (at ∷ places_from (suc at) n)
    first = unfold places_from in refl

    more : suc at + n - suc p ≡ at + suc n - suc p
    more = omega arith

    same : p ≤ at → places_from (suc at) n ≡ places_from (suc p) (at + suc n - suc p)
    same t =
        let is : at ≡ p = omega arith in
        let left : at + suc n - suc p ≡ n = omega arith in
        rw (left, is)

drop-places : (at n i : ℕ) → drop i (places_from at n) ≡ places_from (at + i) (n - i)
drop-places at n zero =
    let here : at + 0 ≡ at = omega arith in
    let all : n - 0 ≡ n = omega arith in
    rw (here, all)
drop-places at zero (suc i) =
    let none : 0 - suc i ≡ 0 = omega arith in
    rw none (unfold places_from in refl)
drop-places at (suc n) (suc i) =
    let here : at + suc i ≡ suc at + i = omega arith in
    let left : suc n - suc i ≡ n - i = omega arith in
    rw (here, left) (next (drop-places (suc at) n i))
  where
    next : drop i (places_from (suc at) n) ≡ places_from (suc at + i) (n - i) → drop (suc i) (places_from at (suc n)) ≡ places_from (suc at + i) (n - i)
    next e = unfold places_from in e

pub map-drop : {A B : Type 0} (g : A → B) (i : ℕ) (list : List A) → drop i (map g list) ≡ map g (drop i list)
map-drop g zero list = refl
map-drop g (suc i) [] = refl
map-drop g (suc i) (x ∷ list) = map-drop g i list

each_get : (key : ℕ → ℕ) (P : ℕ → Type 0) (list : List ℕ) (i : ℕ) → Each key P list → i < length list → P (get_or list i 0)
each_get key P [] i e h = absurd (omega arith)
each_get key P (x ∷ list) zero e h = e.0
each_get key P (x ∷ list) (suc i) e h = each_get key P list i e.1 (omega arith)

-- ---- of one row
module _ (key : ℕ → ℕ) where
  behind-only : (p k : ℕ) (list : List ℕ) → behind p (only key k list) ≡ only key k (behind p list)
  behind-only p k [] = unfold behind only in refl
  behind-only p k (q ∷ list) =
      ⊎_elim
      (λ e. rw (only_same key k q list e)
      (⊎_elim (λ h. rw (behind_more p q (only key k list) h, behind_more p q list h, only_same key k q (behind p list) e) (ap (◌∷◌ q) (behind-only p k list)))
      (λ h. rw (behind-less p q (only key k list) h, behind-less p q list h) (behind-only p k list)) (below? p q)))
      (λ n. rw (only-other key k q list n)
      (⊎_elim (λ h. rw (behind_more p q list h, only-other key k q (behind p list) n) (behind-only p k list)) (λ h. rw (behind-less p q list h) (behind-only p k list)) (below? p q)))
      (same? (key q) k)

  above-only : (j k : ℕ) (list : List ℕ) → Above self j list → Above self j (only key k list)
  above-only j k [] a = rw (only_nil key k) tt
  above-only j k (q ∷ list) a =
      ⊎_elim (λ e. rw (only_same key k q list e) (a.0, above-only j k list a.1)) (λ n. rw (only-other key k q list n) (above-only j k list a.1)) (same? (key q) k)

  rises-only : (k : ℕ) (list : List ℕ) → Rises self list → Rises self (only key k list)
  rises-only k [] r = rw (only_nil key k) tt
  rises-only k (q ∷ list) r =
      ⊎_elim (λ e. rw (only_same key k q list e) (above-only q k list r.0, rises-only k list r.1)) (λ n. rw (only-other key k q list n) (rises-only k list r.1)) (same? (key q) k)

  -- lists with the same entries of a row both have one or both have none
  row_by_only : (near : ℕ → ℕ → Bool) (k : ℕ) (a b : List ℕ) → only key k a ≡ only key k b → some_on key k a ≡ some_on key k b
  row_by_only near k a b e = by (only key k a) refl
    where
      by : (m : List ℕ) → only key k a ≡ m → some_on key k a ≡ some_on key k b
      by [] h = none-on key near k a h ∙ sym (none-on key near k b (sym e ∙ h))
      by (x ∷ m) h = some-on key near k a x m h ∙ sym (some-on key near k b x m (sym e ∙ h))

  -- behind a place in the order of rows there are, of its row, those that come later
  later_of_row : (n p : ℕ) (u v : List ℕ) → p < n → u ++ p ∷ v ≡ ordered key (places n) → only key (key p) v ≡ only key (key p) (places_from (suc p) (n - suc p))
  unfolding places
  later_of_row n p u v h e =
      let k = key p in
      let split : only key k u ++ p ∷ only key k v ≡ only key k (places_from 0 n) =
      ap (λ (l : List ℕ). only key k u ++ l) (sym (only_same key k p v refl)) ∙ sym (only-append key k u (p ∷ v)) ∙ ap (only key k) e ∙ only-ordered key k (places_from 0 n) in
      let rising = subst (λ (l : List ℕ). Rises self l) (sym split) (rises-only k (places_from 0 n) (rises-places 0 n)) in
      let left : 0 + n - suc p ≡ n - suc p = omega arith in
      sym (behind-split p (only key k u) (only key k v) rising) ∙ ap (behind p) split ∙ behind-only p k (places_from 0 n)
      ∙ ap (only key k) (behind_places p 0 n (omega arith) (omega arith) ∙ ap (places_from (suc p)) left)

  -- a fate asks of the later ones only whether one is on the row
  same_fate : (near : ℕ → ℕ → Bool) (written : List ℕ) (p : ℕ) (a b : List ℕ) → some_on key (key p) a ≡ some_on key (key p) b
      → fate_in key near written p a ≡ fate_in key near written p b
  unfolding fate_in
  same_fate near written p a b e = ap (λ (c : Bool). pick c Replaced (pick (near_one near p (last_below key (key p) [] written)) Merged Kept)) e

-- ---- the raw list by its places
module _ {A : Type 0} (none : A) (key : A → ℕ) (near : A → A → Bool) (raw : List A) where
  abbrev pub entry_at : ℕ → A
  entry_at p = get_or raw p none

  abbrev pub row_at : ℕ → ℕ
  row_at p = key (get_or raw p none)

  abbrev pub near_at : ℕ → ℕ → Bool
  near_at p q = near (get_or raw p none) (get_or raw q none)

  -- the places in the order of their rows, and those that are kept
  abbrev pub in_order : List ℕ
  in_order = ordered row_at (places (length raw))

  abbrev pub kept_places : List ℕ
  kept_places = mended row_at near_at (places (length raw))

  pub written_by_places : mended key near raw ≡ map entry_at kept_places
  written_by_places = ap (mended key near) (sym (read-places none raw)) ∙ mended-map entry_at key near (places (length raw))

  pub order-length : length in_order ≡ length raw
  order-length = ordered-length row_at (places (length raw)) ∙ places-length (length raw)

  pub place-within : (i : ℕ) → i < length raw → get_or in_order i 0 < length raw
  unfolding places
  place-within i h =
      each_get row_at (λ (p : ℕ). p < length raw) in_order i
      (each-ordered row_at (λ (p : ℕ). p < length raw) (places_from 0 (length raw)) (each-places row_at (length raw) 0 (length raw) (omega arith))) (omega (arith, order-length))

  later-entries : (p : ℕ) → map entry_at (places_from (suc p) (length raw - suc p)) ≡ drop (p + 1) raw
  unfolding places
  later-entries p =
      ap (λ (i : ℕ). map entry_at (places_from i (length raw - suc p))) (sym (zero-add (suc p))) ∙ ap (map entry_at) (sym (drop-places 0 (length raw) (suc p))) ∙ sym (map-drop entry_at (suc p) (places_from 0 (length raw))) ∙ ap (drop (suc p)) (read-places none raw)
      ∙ ap (λ (i : ℕ). drop i raw) (sym (add-one p))

  -- THE FATE of the place at i, as the walk gives it
  pub fate_at_place : (i : ℕ) (front rest : List ℕ) (other : EntryFate) → i < length raw → drop i in_order ≡ get_or in_order i 0 ∷ rest → Walked row_at near_at kept_places front (get_or in_order i 0 ∷ rest)
      → walk_fate row_at near_at (the_last [] front) (get_or in_order i 0) rest ≡ get_or (fates key near raw) (get_or in_order i 0) other
  fate_at_place i front rest other h d w =
      let p = get_or in_order i 0 in
      let within = place-within i h in
      let later = places_from (suc p) (length raw - suc p) in
      let whole : take i in_order ++ p ∷ rest ≡ in_order = ap (λ (l : List ℕ). take i in_order ++ l) (sym d) ∙ take-append-drop i in_order in
      let same : some_on row_at (row_at p) rest ≡ some_on row_at (row_at p) later =
      row_by_only row_at near_at (row_at p) rest later (later_of_row row_at (length raw) p (take i in_order) rest within whole) in
      sym (walk_fate_lem row_at near_at w)
      ∙ same_fate row_at near_at kept_places p rest later same
      ∙ sym (fate_map entry_at key near kept_places p later)
      ∙ ap (λ (l : List A). fate_in key near l (entry_at p) (map entry_at later)) (sym written_by_places)
      ∙ ap (fate_in key near (mended key near raw) (entry_at p)) (later-entries p)
      ∙ sym (fate_of_place key near raw p none other within)
