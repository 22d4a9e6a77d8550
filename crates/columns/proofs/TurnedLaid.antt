-- A loop that lays the last entry of each key over the fronts of two rooms, turned round: from the last place to the first. It writes every entry, and goes
-- back a place where the next key is another, so that nothing which is thrown away is left behind the list. Assumes nothing.
use Prim.Native.Nat.{ℕ, suc, ◌+◌, ◌-◌, ◌≤◌, ◌<◌, min}
use mathlib.Core.Path.{◌≡◌, refl, sym, ap, ◌∙◌}
use mathlib.Core.List.{List, [], ◌∷◌, ◌++◌, map, reverse, reverse_aux, reverse_aux-eq}
use mathlib.Core.Logic.{⊎_elim}
use native.Mathlib.Omega.{arith}
use native.Mathlib.Numerals.{add-one}
use borrow.Author.Tests.{eq-eqb, ne_eqb}
use lib.Dec.{eqb}
use lib.ListN.{length, get_or, drop, set, length-set, length-map, length-drop, length-reverse}
use lib.Seq.{drop-cons, drop-set-lt, get_or-set_same}
use Rattle.picks.specs.Pick.{pick}
use Rattle.order.specs.Order.{lasts, laid}
use Rattle.order.specs.Entries.{first, second}
use Rattle.order.proofs.Compare.{same?}
use Rattle.order.proofs.TidiedList.{lasts_skip, lasts-keep, lasts-final, lasts-end}
use Rattle.order.proofs.LastEntries.{lasts-some}

module _ {A : Type 0} where
  -- `left` are still to come, into the first `places` places; behind these the room is as it will be
  pub record Turning (new old out left : List A) (places : ℕ) : Type 0 where
    pub size : length out ≡ length old
    pub many : places ≡ length left
    pub within : places ≤ length out
    pub done : reverse_aux left (drop places out) ≡ laid (reverse new) old

  pub turning_none : (new old : List A) (places : ℕ) → places ≡ length new → length new ≤ length old → Turning new old old new places
  unfolding laid
  turning_none new old places e h = record {
    size = refl;
    many = e;
    within = omega arith;
    done = reverse_aux-eq new (drop places old) ∙ ap (λ (n : ℕ). reverse new ++ drop n old) (e ∙ sym (length-reverse new));
  }

  stored : (out : List A) (i : ℕ) (x : A) → i < length out → drop i (set out i x) ≡ x ∷ drop (i + 1) out
  stored out i x h =
      drop-cons (set out i x) i x (rw (length-set out i x) h) ∙ rw (get_or-set_same out i x x h, drop-set-lt (suc i) out i x (omega arith), add-one i)

  module _ {new old out left : List A} {places : ℕ} (p : Turning new old out left places) where
    -- one that is not kept
    pub turning_over : (x : A) (place : ℕ) → place + 1 ≡ places → Turning new old (set out place x) left places
    turning_over x place e = record {
      size = length-set out place x ∙ p.size;
      many = p.many;
      within = rw (length-set out place x) p.within;
      done = ap (reverse_aux left) (drop-set-lt places out place x (omega arith)) ∙ p.done;
    }

    -- one that is
    pub turning_kept : (x : A) (less : List A) (place : ℕ) → left ≡ x ∷ less → place + 1 ≡ places → Turning new old (set out place x) less place
    turning_kept x less place e h = record {
      size = length-set out place x ∙ p.size;
      many = omega (arith, p.many, ap length e);
      within = rw (length-set out place x) (omega (arith, p.within));
      done =
          ap (reverse_aux less) (stored out place x (omega (arith, p.within)) ∙ ap (λ (n : ℕ). x ∷ drop n out) h)
          ∙ ap (λ (l : List A). reverse_aux l (drop places out)) (sym e) ∙ p.done;
    }

    pub turning_all : left ≡ [] → out ≡ laid (reverse new) old
    turning_all e =
        let none : places ≡ 0 = omega (arith, p.many, ap length e) in
        ap (λ (n : ℕ). drop n out) (sym none) ∙ ap (λ (l : List A). reverse_aux l (drop places out)) (sym e) ∙ p.done

-- the list xs, whose entries are laid as `put` says: after i of them, the next goes to `place`
pub record LastsTurning {X A B : Type 0} (key : X → ℕ) (put : X → A × B) (xs : List X) (first_old first_new : List A) (second_old second_new : List B) (i place : ℕ) : Type 0 where
  pub firsts : Turning (map first (map put (lasts key xs))) first_old first_new (map first (map put (lasts key (drop i xs)))) (place + 1)
  pub seconds : Turning (map second (map put (lasts key xs))) second_old second_new (map second (map put (lasts key (drop i xs)))) (place + 1)

module _ {X A B : Type 0} (key : X → ℕ) (put : X → A × B) {first_old : List A} {second_old : List B} where
  pub lasts_turned_none : {xs : List X} (place : ℕ) → place + 1 ≡ length (lasts key xs) → length (lasts key xs) ≤ min (length first_old) (length second_old)
      → LastsTurning key put xs first_old first_old second_old second_old 0 place
  lasts_turned_none {xs} place e h = record {
    firsts = turning_none _ _ _ (simp length-map e) (simp length-map (omega arith));
    seconds = turning_none _ _ _ (simp length-map e) (simp length-map (omega arith));
  }

  module _ {xs : List X} {first_new : List A} {second_new : List B} {i place : ℕ} (p : LastsTurning key put xs first_old first_new second_old second_new i place) where
    pub lasts_turned_room : (place < length first_new) × (place < length second_new)
    lasts_turned_room = (omega (arith, p.firsts.within), omega (arith, p.seconds.within))

    -- the entry at i, written as a and b
    module _ (none : X) (a : A) (b : B) (is : (a, b) ≡ put (get_or xs i none)) where
      module _ (kept : lasts key (drop i xs) ≡ get_or xs i none ∷ lasts key (drop (i + 1) xs)) where
        first-kept : Turning (map first (map put (lasts key xs))) first_old (set first_new place a) (map first (map put (lasts key (drop (i + 1) xs)))) place
        first-kept =
            turning_kept p.firsts a (map first (map put (lasts key (drop (i + 1) xs)))) place
            (ap (λ (l : List X). map first (map put l)) kept ∙ ap (λ (e : A × B). first e ∷ map first (map put (lasts key (drop (i + 1) xs)))) (sym is)) refl

        second-kept : Turning (map second (map put (lasts key xs))) second_old (set second_new place b) (map second (map put (lasts key (drop (i + 1) xs)))) place
        second-kept =
            turning_kept p.seconds b (map second (map put (lasts key (drop (i + 1) xs)))) place
            (ap (λ (l : List X). map second (map put l)) kept ∙ ap (λ (e : A × B). second e ∷ map second (map put (lasts key (drop (i + 1) xs)))) (sym is)) refl

      module _ (more : i + 1 < length xs) where
        inside : i < length xs
        inside = omega arith

        written_over : key (get_or xs i none) ≡ key (get_or xs (i + 1) none) → LastsTurning key put xs first_old (set first_new place a) second_old (set second_new place b) (i + 1) place
        written_over t =
            let skip = lasts_skip key none xs i inside more t in
            record { firsts = rw skip at (turning_over p.firsts a place refl); seconds = rw skip at (turning_over p.seconds b place refl) }

        -- a further entry is kept, so there is a place before this one
        pub lasts_turned_more : (key (get_or xs i none) ≡ key (get_or xs (i + 1) none) → ⊥) → 0 < place
        lasts_turned_more t =
            let keep = lasts-keep key none xs i inside more t in
            let some : 0 < length (lasts key (drop (i + 1) xs)) = lasts-some key (drop (i + 1) xs) (simp length-drop (omega arith)) in
            omega (arith, simp length-map at (first-kept keep).many, some)

        goes_on : (less : ℕ) → less + 1 ≡ place → (key (get_or xs i none) ≡ key (get_or xs (i + 1) none) → ⊥)
            → LastsTurning key put xs first_old (set first_new place a) second_old (set second_new place b) (i + 1) less
        goes_on less e t = let keep = lasts-keep key none xs i inside more t in record { firsts = rw e (first-kept keep); seconds = rw e (second-kept keep) }

        pub lasts_turned_few : (same : ℕ) → same ≡ pick (eqb (key (get_or xs i none)) (key (get_or xs (i + 1) none))) 1 0 → 1 - same ≤ place
        lasts_turned_few same e =
            let here = key (get_or xs i none) in
            let next = key (get_or xs (i + 1) none) in
            ⊎_elim (λ t. omega (arith, rw (eq-eqb here next t) at e)) (λ t. omega (arith, lasts_turned_more t)) (same? here next)

        pub lasts_turned_turn : (same : ℕ) → same ≡ pick (eqb (key (get_or xs i none)) (key (get_or xs (i + 1) none))) 1 0
            → LastsTurning key put xs first_old (set first_new place a) second_old (set second_new place b) (i + 1) (place - (1 - same))
        lasts_turned_turn same e =
            let here = key (get_or xs i none) in
            let next = key (get_or xs (i + 1) none) in
            ⊎_elim (λ t. let stays : place - (1 - same) ≡ place = omega (arith, rw (eq-eqb here next t) at e) in rw stays (written_over t))
            (λ t. goes_on (place - (1 - same)) (omega (arith, lasts_turned_more t, rw (ne_eqb here next t) at e)) t)
            (same? here next)

      -- the last one
      pub lasts_turned_all : i < length xs → length xs ≤ i + 1
          → (set first_new place a ≡ laid (reverse (map first (map put (lasts key xs)))) first_old) × (set second_new place b ≡ laid (reverse (map second (map put (lasts key xs)))) second_old)
      lasts_turned_all h k =
          let final = lasts-final key none xs i h k in
          let none_left = ap (map put) (lasts-end key xs (i + 1) k) in
          (turning_all (first-kept final) (ap (map first) none_left), turning_all (second-kept final) (ap (map second) none_left))
