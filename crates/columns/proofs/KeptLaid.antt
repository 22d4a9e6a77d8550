-- A loop over the entries that a test keeps: it counts them, or lays each, changed, over the fronts of two rooms. Assumes nothing.
use Prim.Native.Nat.{ℕ, ◌+◌, ◌≤◌, ◌<◌, min}
use mathlib.Core.Path.{◌≡◌, sym, ap, ◌∙◌}
use mathlib.Core.Bool.{Bool, true, false}
use mathlib.Core.List.{List, [], ◌∷◌, map}
use native.Mathlib.Numerals.{add-one}
use native.Mathlib.Omega.{arith}
use lib.ListN.{length, get_or, drop, set, length-map, drop_of_length-le}
use lib.Seq.{drop-cons}
use Rattle.picks.specs.Pick.{pick}
use Rattle.order.specs.Order.{laid}
use Rattle.order.specs.Entries.{first, second}
use Rattle.order.proofs.LaidOverFront.{Laying, laying-none, laying-room, laying-more, laying-count, laying-all}
use Rattle.columns.specs.Kept.{kept}

module _ {X Y : Type 0} (test : X → Bool) (change : X → Y) where
  pub few-kept : (xs : List X) → length (kept test change xs) ≤ length xs
  unfolding kept
  few-kept [] = omega arith
  few-kept (x ∷ xs) = go (test x) (few-kept xs)
    where
      go : (t : Bool) → length (kept test change xs) ≤ length xs → length (pick t (change x ∷ kept test change xs) (kept test change xs)) ≤ length (x ∷ xs)
      go true h = omega arith
      go false h = omega arith

  -- ---- from the entry at i on
  module _ (xs : List X) (i : ℕ) where
    pub none_kept : length xs ≤ i → kept test change (drop i xs) ≡ []
    unfolding kept
    none_kept past = rw (drop_of_length-le xs past)

    module _ (none : X) (inside : i < length xs) where
      pub kept_here : test (get_or xs i none) ≡ true → kept test change (drop i xs) ≡ change (get_or xs i none) ∷ kept test change (drop (i + 1) xs)
      unfolding kept
      kept_here t = rw (add-one i, drop-cons xs i none inside, t)

      pub left_here : test (get_or xs i none) ≡ false → kept test change (drop i xs) ≡ kept test change (drop (i + 1) xs)
      unfolding kept
      left_here t = rw (add-one i, drop-cons xs i none inside, t)

-- ---- counted: after i entries
pub record KeptCount {X Y : Type 0} (test : X → Bool) (change : X → Y) (xs : List X) (i count : ℕ) : Type 0 where
  pub inside : i ≤ length xs
  pub few : count ≤ i
  pub same : count + length (kept test change (drop i xs)) ≡ length (kept test change xs)

module _ {X Y : Type 0} (test : X → Bool) (change : X → Y) {xs : List X} where
  pub count_none : KeptCount test change xs 0 0
  count_none = record { inside = omega arith; few = omega arith; same = omega arith }

  module _ {i count : ℕ} (p : KeptCount test change xs i count) where
    pub count_kept : (none : X) → i < length xs → test (get_or xs i none) ≡ true → KeptCount test change xs (i + 1) (count + 1)
    count_kept none h t = record { inside = omega arith; few = omega (arith, p.few); same = omega (arith, p.same, ap length (kept_here test change xs i none h t)) }

    pub count_left : (none : X) → i < length xs → test (get_or xs i none) ≡ false → KeptCount test change xs (i + 1) count
    count_left none h t = record { inside = omega arith; few = omega (arith, p.few); same = omega (arith, p.same, ap length (left_here test change xs i none h t)) }

    pub count-all : length xs ≤ i → count ≡ length (kept test change xs)
    count-all past = omega (arith, p.same, ap length (none_kept test change xs i past))

-- ---- laid: after i entries
pub record KeptLaying {X A B : Type 0} (test : X → Bool) (change : X → A × B) (xs : List X) (first_old first_new : List A) (second_old second_new : List B) (i count : ℕ) : Type 0 where
  pub inside : i ≤ length xs
  pub few : count ≤ i
  pub firsts : Laying (map first (kept test change xs)) first_old first_new (map first (kept test change (drop i xs))) count
  pub seconds : Laying (map second (kept test change xs)) second_old second_new (map second (kept test change (drop i xs))) count

module _ {X A B : Type 0} (test : X → Bool) (change : X → A × B) {xs : List X} {first_old : List A} {second_old : List B} where
  pub lay_none : KeptLaying test change xs first_old first_old second_old second_old 0 0
  lay_none = record { inside = omega arith; few = omega arith; firsts = laying-none _ _; seconds = laying-none _ _ }

  module _ {first_new : List A} {second_new : List B} {i count : ℕ} (p : KeptLaying test change xs first_old first_new second_old second_new i count) where
    module _ (none : X) (h : i < length xs) (t : test (get_or xs i none) ≡ true) (fits : length (kept test change xs) ≤ min (length first_old) (length second_old)) where
      pub lay_room : (count < length first_new) × (count < length second_new)
      lay_room =
          let here = kept_here test change xs i none h t in
          (laying-room _ _ _ _ _ p.firsts _ _ (ap (map first) here) (simp length-map (omega arith)), laying-room _ _ _ _ _ p.seconds _ _ (ap (map second) here) (simp length-map (omega arith)))

      -- the entry at i, written as a and b
      pub lay_kept_lem : (a : A) (b : B) → (a, b) ≡ change (get_or xs i none) → KeptLaying test change xs first_old (set first_new count a) second_old (set second_new count b) (i + 1) (count + 1)
      lay_kept_lem a b is =
          let here = kept_here test change xs i none h t ∙ ap (λ (e : A × B). e ∷ kept test change (drop (i + 1) xs)) (sym is) in
          record {
            inside = omega arith;
            few = omega (arith, p.few);
            firsts = laying-more _ _ _ _ _ p.firsts a _ (ap (map first) here) lay_room.0;
            seconds = laying-more _ _ _ _ _ p.seconds b _ (ap (map second) here) lay_room.1;
          }

    pub lay_left : (none : X) → i < length xs → test (get_or xs i none) ≡ false → KeptLaying test change xs first_old first_new second_old second_new (i + 1) count
    lay_left none h t =
        let here = left_here test change xs i none h t in
        record { inside = omega arith; few = omega (arith, p.few); firsts = rw here at p.firsts; seconds = rw here at p.seconds }

    pub lay_all_lem : length xs ≤ i
        → (count ≡ length (kept test change xs)) × (first_new ≡ laid (map first (kept test change xs)) first_old) × (second_new ≡ laid (map second (kept test change xs)) second_old)
    lay_all_lem past =
        let none_left = none_kept test change xs i past in
        (laying-count _ _ _ _ _ p.firsts (ap (map first) none_left) ∙ simp length-map, laying-all _ _ _ _ _ p.firsts (ap (map first) none_left), laying-all _ _ _ _ _ p.seconds (ap (map second) none_left))
