-- A loop that lays the last entry of each key over the fronts of two rooms: it writes every entry, and goes on to the next place where the next key is another.
-- Assumes nothing.
use Prim.Native.Nat.{ℕ, ◌+◌, ◌-◌, ◌≤◌, ◌<◌, min}
use mathlib.Core.Path.{◌≡◌, sym, ap, ◌∙◌}
use mathlib.Core.List.{List, ◌∷◌, map}
use mathlib.Core.Logic.{⊎_elim}
use native.Mathlib.Omega.{arith}
use borrow.Author.Tests.{eq-eqb, ne_eqb}
use lib.Dec.{eqb}
use lib.ListN.{length, get_or, drop, set, length-map, length-drop}
use Rattle.picks.specs.Pick.{pick}
use Rattle.order.specs.Order.{lasts, laid}
use Rattle.order.specs.Entries.{first, second}
use Rattle.order.proofs.Compare.{same?}
use Rattle.order.proofs.TidiedList.{lasts_skip, lasts-keep, lasts-final, lasts-end}
use Rattle.order.proofs.LastEntries.{lasts-some}
use Rattle.order.proofs.LaidOverFront.{Laying, laying-none, laying-count, laying-all}
use Rattle.order.proofs.WrittenAhead.{Ahead, ahead_none, ahead-room, ahead-over, ahead-kept}

-- the list xs, whose entries are laid as `put` says: after i of them, count are kept
pub record LastsLaying {X A B : Type 0} (key : X → ℕ) (put : X → A × B) (xs : List X) (first_old first_new : List A) (second_old second_new : List B) (i count : ℕ) : Type 0 where
  pub few : count ≤ i
  pub firsts : Ahead (map first (map put (lasts key xs))) first_old first_new (map first (map put (lasts key (drop i xs)))) count
  pub seconds : Ahead (map second (map put (lasts key xs))) second_old second_new (map second (map put (lasts key (drop i xs)))) count

module _ {X A B : Type 0} (key : X → ℕ) (put : X → A × B) {first_old : List A} {second_old : List B} where
  pub lasts-none : {xs : List X} → LastsLaying key put xs first_old first_old second_old second_old 0 0
  lasts-none = record { few = omega arith; firsts = ahead_none (laying-none _ _); seconds = ahead_none (laying-none _ _) }

  module _ {xs : List X} {first_new : List A} {second_new : List B} {i count : ℕ}
      (p : LastsLaying key put xs first_old first_new second_old second_new i count) (fits : length (lasts key xs) ≤ min (length first_old) (length second_old)) where
    pub lasts-room : i < length xs → (count < length first_new) × (count < length second_new)
    lasts-room h =
        let some : 0 < length (lasts key (drop i xs)) = lasts-some key (drop i xs) (simp length-drop (omega arith)) in
        (ahead-room p.firsts (simp length-map some) (simp length-map (omega arith)), ahead-room p.seconds (simp length-map some) (simp length-map (omega arith)))

    -- the entry at i, written as a and b
    module _ (none : X) (a : A) (b : B) (is : (a, b) ≡ put (get_or xs i none)) where
      module _ (inside : i < length xs) (kept : lasts key (drop i xs) ≡ get_or xs i none ∷ lasts key (drop (i + 1) xs)) where
        first-kept : Laying (map first (map put (lasts key xs))) first_old (set first_new count a) (map first (map put (lasts key (drop (i + 1) xs)))) (count + 1)
        first-kept =
            ahead-kept p.firsts a (map first (map put (lasts key (drop (i + 1) xs))))
            (ap (λ (l : List X). map first (map put l)) kept ∙ ap (λ (e : A × B). first e ∷ map first (map put (lasts key (drop (i + 1) xs)))) (sym is)) (lasts-room inside).0

        second-kept : Laying (map second (map put (lasts key xs))) second_old (set second_new count b) (map second (map put (lasts key (drop (i + 1) xs)))) (count + 1)
        second-kept =
            ahead-kept p.seconds b (map second (map put (lasts key (drop (i + 1) xs))))
            (ap (λ (l : List X). map second (map put l)) kept ∙ ap (λ (e : A × B). second e ∷ map second (map put (lasts key (drop (i + 1) xs)))) (sym is)) (lasts-room inside).1

      module _ (more : i + 1 < length xs) where
        inside : i < length xs
        inside = omega arith

        written_over : key (get_or xs i none) ≡ key (get_or xs (i + 1) none) → LastsLaying key put xs first_old (set first_new count a) second_old (set second_new count b) (i + 1) count
        written_over t =
            let skip = lasts_skip key none xs i inside more t in
            record { few = omega (arith, p.few); firsts = rw skip at (ahead-over p.firsts a); seconds = rw skip at (ahead-over p.seconds b) }

        goes_on : (key (get_or xs i none) ≡ key (get_or xs (i + 1) none) → ⊥) → LastsLaying key put xs first_old (set first_new count a) second_old (set second_new count b) (i + 1) (count + 1)
        goes_on t =
            let keep = lasts-keep key none xs i inside more t in
            record { few = omega (arith, p.few); firsts = ahead_none (first-kept inside keep); seconds = ahead_none (second-kept inside keep) }

        pub lasts-turn : (same : ℕ) → same ≡ pick (eqb (key (get_or xs i none)) (key (get_or xs (i + 1) none))) 1 0
            → LastsLaying key put xs first_old (set first_new count a) second_old (set second_new count b) (i + 1) (count + (1 - same))
        lasts-turn same e =
            let here = key (get_or xs i none) in
            let next = key (get_or xs (i + 1) none) in
            ⊎_elim (λ t. let stays : count + (1 - same) ≡ count = omega (arith, rw (eq-eqb here next t) at e) in rw stays (written_over t))
            (λ t. let moves : count + (1 - same) ≡ count + 1 = omega (arith, rw (ne_eqb here next t) at e) in rw moves (goes_on t))
            (same? here next)

      -- the last one
      pub lasts-all : i < length xs → length xs ≤ i + 1
          → (set first_new count a ≡ laid (map first (map put (lasts key xs))) first_old) × (set second_new count b ≡ laid (map second (map put (lasts key xs))) second_old)
      lasts-all h k =
          let final = lasts-final key none xs i h k in
          let none_left = ap (map put) (lasts-end key xs (i + 1) k) in
          (laying-all _ _ _ _ _ (first-kept h final) (ap (map first) none_left), laying-all _ _ _ _ _ (second-kept h final) (ap (map second) none_left))

      pub lasts-count : i < length xs → length xs ≤ i + 1 → count + 1 ≡ length (lasts key xs)
      lasts-count h k =
          laying-count _ _ _ _ _ (first-kept h (lasts-final key none xs i h k)) (ap (λ (l : List X). map first (map put l)) (lasts-end key xs (i + 1) k))
          ∙ length-map (map put (lasts key xs)) first ∙ length-map (lasts key xs) put
