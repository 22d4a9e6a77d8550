-- An entry placed by its place among the kept ones: the change that its flags make is what placing gives. Assumes nothing.
use Prim.Native.Nat.{ℕ, zero, suc, ◌+◌, ◌-◌, ◌≤◌, ◌<◌}
use mathlib.Core.Path.{◌≡◌, refl, sym, ap, ◌∙◌}
use mathlib.Core.Bool.{Bool, true, false}
use mathlib.Core.List.{List, [], ◌∷◌, ◌++◌, reverse, reverse_aux}
use native.Mathlib.Omega.{arith}
use lib.ListN.{length, take, drop, get_or, length-reverse_aux, length-reverse, length-drop, take-append-drop}
use lib.Seq.{length-take-le}
use lib.Dec.{ltb, eqb}
use borrow.Author.Tests.{lt-ltb, le-ltb, le-leb, lt-leb, ne_eqb}
use Rattle.picks.specs.Pick.{pick}
use mathlib.Core.Logic.{inl, inr}
use Rattle.order.proofs.Compare.{below?}
use Rattle.tidy_kept.specs.declared.Change.{Change}
use Rattle.tidy_kept.specs.Keeping.{nearby, moved_to, at_front, on_row_of, previous, cleared, settled, amid, placed_between, placed_after}
use Rattle.tidy_kept.specs.Changing.{coming, spliced, cut, branch_of, change_where, change_of}

-- ---- a list whose front is given nearest first
module _ {A : Type 0} where
  pub get_or-behind : (f l : List A) (i : ℕ) (d : A) → get_or (reverse_aux f l) (length f + i) d ≡ get_or l i d
  get_or-behind [] l i d = let z : 0 + i ≡ i = omega arith in ap (λ (k : ℕ). get_or l k d) z
  get_or-behind (y ∷ f) l i d = let z : suc (length f) + i ≡ length f + suc i = omega arith in ap (λ (k : ℕ). get_or (reverse_aux f (y ∷ l)) k d) z ∙ get_or-behind f (y ∷ l) (suc i) d

  drop-behind : (f l : List A) (i : ℕ) → drop (length f + i) (reverse_aux f l) ≡ drop i l
  drop-behind [] l i = let z : 0 + i ≡ i = omega arith in ap (λ (k : ℕ). drop k l) z
  drop-behind (y ∷ f) l i = let z : suc (length f) + i ≡ length f + suc i = omega arith in ap (λ (k : ℕ). drop k (reverse_aux f (y ∷ l))) z ∙ drop-behind f (y ∷ l) (suc i)

  take_behind : (f l : List A) (i : ℕ) → take (length f + i) (reverse_aux f l) ≡ reverse_aux f (take i l)
  take_behind [] l i = let z : 0 + i ≡ i = omega arith in ap (λ (k : ℕ). take k l) z
  take_behind (y ∷ f) l i = let z : suc (length f) + i ≡ length f + suc i = omega arith in ap (λ (k : ℕ). take k (reverse_aux f (y ∷ l))) z ∙ take_behind f (y ∷ l) (suc i)

  append-behind : (f l m : List A) → reverse_aux f l ++ m ≡ reverse_aux f (l ++ m)
  append-behind [] l m = refl
  append-behind (y ∷ f) l m = append-behind f (y ∷ l) m

  pub twice-behind : (a b l : List A) → reverse_aux (reverse_aux a b) l ≡ reverse_aux b (a ++ l)
  twice-behind [] b l = refl
  twice-behind (x ∷ a) b l = twice-behind a (x ∷ b) l

  -- a part replaced right behind the front
  spliced-behind : (f l : List A) (low high k : ℕ) (comes : Bool) (x : A) → low ≡ length f → high ≡ length f + k
      → spliced low high comes x (reverse_aux f l) ≡ reverse_aux f (coming comes x ++ drop k l)
  unfolding spliced
  spliced-behind f l low high k comes x a b =
      let here : low ≡ length f + 0 = omega arith in
      let start : take low (reverse_aux f l) ≡ reverse_aux f [] = ap (λ (j : ℕ). take j (reverse_aux f l)) here ∙ take_behind f l 0 in
      rw (start, b, drop-behind f l k) (append-behind f [] (coming comes x ++ drop k l))

module _ {B W : Type 0} (row : B → ℕ) (near : W → W → Bool) where
  -- `at` of the entries, and no more, are on rows up to k
  abbrev pub Reaches : ℕ → ℕ → List (B × W) → Type 0
  Reaches k zero [] = Unit {0}
  Reaches k zero (x ∷ l) = k < row x.0
  Reaches k (suc at) [] = ⊥
  Reaches k (suc at) (x ∷ l) = (row x.0 ≤ k) × Reaches k at l

  pub walked : (e : B × W) (front l : List (B × W)) (at : ℕ) → Reaches (row e.0) at l → placed_after row near e front l ≡ placed_between row near e (reverse_aux (take at l) front) (drop at l)
  unfolding placed_after
  walked e front [] zero r = refl
  walked e front [] (suc at) r = elim r [ ]
  walked e front (x ∷ l) zero r = rw (lt-leb (row x.0) (row e.0) r)
  walked e front (x ∷ l) (suc at) r = rw (le-leb (row x.0) (row e.0) r.0) (walked e (x ∷ front) l at r.1)

  -- whether the value of e is near that at a place
  abbrev pub near_at : B × W → List (B × W) → ℕ → Bool
  near_at e l i = pick (ltb i (length l)) (near e.1 (get_or l i e).1) false

  abbrev pub against_at : ℕ → Bool → ℕ
  against_at last beat_on_row = pick beat_on_row (last - 1) last

  -- the flags of an entry, read off by place
  abbrev pub change_by : B × W → List (B × W) → ℕ → Bool → Change
  change_by e l at beat_on_row = change_of at beat_on_row (near_at e l (at - 1 + 1)) (near_at e l (against_at (at - 1) beat_on_row)) (near_at e l (at - 1))

  -- what the change makes of the list
  abbrev pub changed : B × W → Change → List (B × W) → List (B × W)
  changed e c l = spliced c.low c.high c.comes (e.0, pick c.moves (get_or l (c.high - 1) e).1 e.1) l

  pub near-behind : (e : B × W) (f : List (B × W)) (x : B × W) (l : List (B × W)) (i : ℕ) → i ≡ length f → near_at e (reverse_aux f (x ∷ l)) i ≡ near e.1 x.1
  near-behind e f x l i h =
      let here : get_or (reverse_aux f (x ∷ l)) i e ≡ x = ap (λ (k : ℕ). get_or (reverse_aux f (x ∷ l)) k e) (omega arith) ∙ get_or-behind f (x ∷ l) 0 e in
      let inside : i < length (reverse_aux f (x ∷ l)) = omega (arith, length-reverse_aux f (x ∷ l)) in
      rw (lt-ltb i (length (reverse_aux f (x ∷ l))) inside, here)

  near-past : (e : B × W) (f : List (B × W)) (i : ℕ) → i ≡ length f → near_at e (reverse_aux f []) i ≡ false
  near-past e f i h = rw (le-ltb i (length (reverse_aux f [])) (omega (arith, length-reverse_aux f [])))

  -- ---- behind some others
  module _ (e last : B × W) where
    -- without a last one on its row
    clear : (front rest : List (B × W)) (o : Bool) (low high j : ℕ) (comes : Bool) (x : B × W) → on_row_of row near last e ≡ o → low ≡ cut (length front) o → high ≡ length front + 1 + j
        → spliced low high comes x (reverse_aux front (last ∷ rest)) ≡ reverse_aux (cleared row near e last front) (coming comes x ++ drop j rest)
    unfolding cleared
    clear [] rest true low high j comes x s a b = spliced-behind (last ∷ []) rest low high j comes x a (omega arith)
    clear [] rest false low high j comes x s a b = spliced-behind (last ∷ []) rest low high j comes x a (omega arith)
    clear (before ∷ front) rest true low high j comes x s a b =
        let some : eqb (suc (length front)) 0 ≡ false = ne_eqb (suc (length front)) 0 (λ z. omega arith) in
        rw s (spliced-behind (before ∷ front) (last ∷ rest) low high (suc j) comes x (rw some at a) (omega arith))
    clear (before ∷ front) rest false low high j comes x s a b = rw s (spliced-behind (last ∷ before ∷ front) rest low high j comes x (omega arith) (omega arith))

    near-previous : (front rest : List (B × W)) (o : Bool) (i : ℕ) → on_row_of row near last e ≡ o → i ≡ length front
        → near_at e (reverse_aux front (last ∷ rest)) (against_at i o) ≡ nearby row near e (previous row near e last front)
    unfolding previous
    near-previous [] rest true i s h = near-behind e [] last rest (i - 1) (omega arith)
    near-previous [] rest false i s h = near-behind e [] last rest i h
    near-previous (before ∷ front) rest true i s h = rw s (near-behind e front before (last ∷ rest) (i - 1) (omega arith))
    near-previous (before ∷ front) rest false i s h = rw s (near-behind e (before ∷ front) last rest i h)

    module _ (front : List (B × W)) (at : ℕ) (is : at ≡ suc (length front)) (few : at ≤ 1024) where
      behind-last : at - 1 ≡ length front
      behind-last = omega arith

      abbrev prev : B × W
      prev = previous row near e last front

      -- no next one is near
      settles : (rest : List (B × W)) (o near_previous near_last_of : Bool) → on_row_of row near last e ≡ o → nearby row near e last ≡ near_last_of
          → reverse_aux (pick near_previous (cleared row near e last front) (settled row near e last front)) rest
          ≡ changed e (change_of at o false near_previous near_last_of) (reverse_aux front (last ∷ rest))
      unfolding change_of settled
      settles rest o true near_last_of s n =
          rw (le-ltb 1024 at few) (sym (clear front rest o (cut (at - 1) o) (at - 1 + 1) 0 false e s (ap (λ (k : ℕ). cut k o) behind-last) (omega arith)))
      settles rest true false true s n = rw (le-ltb 1024 at few, s, n) (sym (spliced-behind (last ∷ front) rest at at 0 false e (omega arith) (omega arith)))
      settles rest true false false s n = rw (le-ltb 1024 at few, s, n) (sym (spliced-behind front (last ∷ rest) (at - 1) at 1 true e (omega arith) (omega arith)))
      settles rest false false near_last_of s n = rw (le-ltb 1024 at few, s) (sym (spliced-behind (last ∷ front) rest at at 0 true e (omega arith) (omega arith)))

      amid-last : (o near_previous near_last_of : Bool) → on_row_of row near last e ≡ o → nearby row near e prev ≡ near_previous → nearby row near e last ≡ near_last_of
          → amid row near e last front [] ≡ changed e (change_of at o false near_previous near_last_of) (reverse_aux front (last ∷ []))
      unfolding amid
      amid-last o near_previous near_last_of s p n = rw p (settles [] o near_previous near_last_of s n)

      module _ (next : B × W) (rest : List (B × W)) where
        amid-near : (o near_previous near_last_of : Bool) → on_row_of row near last e ≡ o → nearby row near e next ≡ true → nearby row near e prev ≡ near_previous
            → amid row near e last front (next ∷ rest) ≡ changed e (change_of at o true near_previous near_last_of) (reverse_aux front (last ∷ next ∷ rest))
        unfolding amid change_of
        amid-near o true near_last_of s m p =
            rw (m, p, le-ltb 1024 at few)
            (sym (clear front (next ∷ rest) o (cut (at - 1) o) (at - 1 + 2) 1 false e s (ap (λ (k : ℕ). cut k o) behind-last) (omega arith)))
        amid-near o false near_last_of s m p =
            let there : at - 1 + 2 - 1 ≡ length (last ∷ front) + 0 = omega arith in
            let here : get_or (reverse_aux front (last ∷ next ∷ rest)) (at - 1 + 2 - 1) e ≡ next = ap (λ (k : ℕ). get_or (reverse_aux front (last ∷ next ∷ rest)) k e) there ∙ get_or-behind (last ∷ front) (next ∷ rest) 0 e in
            rw (m, p, le-ltb 1024 at few, here)
            (sym (clear front (next ∷ rest) o (cut (at - 1) o) (at - 1 + 2) 1 true (moved_to row near next e) s (ap (λ (k : ℕ). cut k o) behind-last) (omega arith)))

        amid-far : (o near_previous near_last_of : Bool) → on_row_of row near last e ≡ o → nearby row near e next ≡ false → nearby row near e prev ≡ near_previous → nearby row near e last ≡ near_last_of
            → amid row near e last front (next ∷ rest) ≡ changed e (change_of at o false near_previous near_last_of) (reverse_aux front (last ∷ next ∷ rest))
        unfolding amid
        amid-far o true near_last_of s m p n = rw (m, p) (settles (next ∷ rest) o true near_last_of s n)
        amid-far o false near_last_of s m p n = rw (m, p) (settles (next ∷ rest) o false near_last_of s n)

        amid-next : (o near_next near_previous near_last_of : Bool) → on_row_of row near last e ≡ o → nearby row near e next ≡ near_next → nearby row near e prev ≡ near_previous
            → nearby row near e last ≡ near_last_of
            → amid row near e last front (next ∷ rest) ≡ changed e (change_of at o near_next near_previous near_last_of) (reverse_aux front (last ∷ next ∷ rest))
        amid-next o true near_previous near_last_of s m p n = amid-near o near_previous near_last_of s m p
        amid-next o false near_previous near_last_of s m p n = amid-far o near_previous near_last_of s m p n

  -- ---- before all others
  front-last : (e first : B × W) (near_first : Bool) → nearby row near e first ≡ near_first
      → at_front row near e first [] ≡ changed e (change_of 0 false false near_first near_first) (first ∷ [])
  unfolding at_front change_of spliced
  front-last e first true s = rw s
  front-last e first false s = rw s

  front-next : (e first next : B × W) (rest : List (B × W)) (near_next near_first : Bool) → nearby row near e next ≡ near_next → nearby row near e first ≡ near_first
      → at_front row near e first (next ∷ rest) ≡ changed e (change_of 0 false near_next near_first near_first) (first ∷ next ∷ rest)
  unfolding at_front change_of spliced
  front-next e first next rest true true m s = rw (m, s)
  front-next e first next rest true false m s = rw (m, s)
  front-next e first next rest false true m s = rw (m, s)
  front-next e first next rest false false m s = rw (m, s)

  -- ---- wherever it stands
  -- whether the last one up to its row is on its row
  abbrev pub on_row_at : B × W → List (B × W) → ℕ → Bool
  on_row_at e l at = eqb (row (get_or l (at - 1) e).0) (row e.0)

  abbrev Changes : B × W → List (B × W) → List (B × W) → ℕ → Type 0
  Changes e front rest at = placed_between row near e front rest ≡ changed e (change_by e (reverse_aux front rest) at (on_row_at e (reverse_aux front rest) at)) (reverse_aux front rest)

  changed-front : (e first : B × W) (rest : List (B × W)) (at : ℕ) → at ≡ 0 → row e.0 < row first.0 → Changes e [] (first ∷ rest) at
  unfolding placed_between
  changed-front e first [] at is r =
      let off : eqb (row first.0) (row e.0) ≡ false = ne_eqb (row first.0) (row e.0) (λ z. omega (arith, z)) in
      rw (is, off) (front-last e first (near e.1 first.1) refl)
  changed-front e first (next ∷ rest) at is r =
      let off : eqb (row first.0) (row e.0) ≡ false = ne_eqb (row first.0) (row e.0) (λ z. omega (arith, z)) in
      rw (is, off, near-behind e [] first (next ∷ rest) 0 refl, near-behind e (first ∷ []) next rest 1 refl)
      (front-next e first next rest (near e.1 next.1) (near e.1 first.1) refl refl)

  module _ (e last : B × W) (front : List (B × W)) (at : ℕ) (is : at ≡ suc (length front)) (few : at ≤ 1024) where
    lastly : (rest : List (B × W)) → get_or (reverse_aux front (last ∷ rest)) (at - 1) e ≡ last
    lastly rest = let here : at - 1 ≡ length front + 0 = omega arith in ap (λ (k : ℕ). get_or (reverse_aux front (last ∷ rest)) k e) here ∙ get_or-behind front (last ∷ rest) 0 e

    same_row : on_row_of row near last e ≡ eqb (row last.0) (row e.0)
    unfolding on_row_of
    same_row = refl

    abbrev o : Bool
    o = eqb (row last.0) (row e.0)

    by_flags : (rest : List (B × W)) (near_next near_previous near_last_of : Bool) → near_at e (reverse_aux front (last ∷ rest)) (at - 1 + 1) ≡ near_next
        → near_at e (reverse_aux front (last ∷ rest)) (against_at (at - 1) o) ≡ near_previous → near_at e (reverse_aux front (last ∷ rest)) (at - 1) ≡ near_last_of
        → changed e (change_of at o near_next near_previous near_last_of) (reverse_aux front (last ∷ rest))
        ≡ changed e (change_by e (reverse_aux front (last ∷ rest)) at (on_row_at e (reverse_aux front (last ∷ rest)) at)) (reverse_aux front (last ∷ rest))
    by_flags rest near_next near_previous near_last_of a b c =
        let l = reverse_aux front (last ∷ rest) in
        let flags : change_by e l at o ≡ change_of at o near_next near_previous near_last_of = rw (a, b, c) in
        ap (λ (k : Change). changed e k l) (sym (ap (λ (x : B × W). change_by e l at (eqb (row x.0) (row e.0))) (lastly rest) ∙ flags))

    changed-behind : (rest : List (B × W)) → Changes e (last ∷ front) rest at
    unfolding placed_between
    changed-behind [] =
        amid-last e last front at is few o _ _ same_row refl refl
        ∙ by_flags [] _ _ _ (near-past e (last ∷ front) (at - 1 + 1) (omega arith)) (near-previous e last front [] o (at - 1) same_row (omega arith)) (near-behind e front last [] (at - 1) (omega arith))
    changed-behind (next ∷ rest) =
        amid-next e last front at is few next rest o _ _ _ same_row refl refl refl
        ∙ by_flags (next ∷ rest) _ _ _ (near-behind e (last ∷ front) next rest (at - 1 + 1) (omega arith)) (near-previous e last front (next ∷ rest) o (at - 1) same_row (omega arith)) (near-behind e front last (next ∷ rest) (at - 1) (omega arith))

  between-changed : (e : B × W) (front rest : List (B × W)) (at : ℕ) → at ≡ length front → at ≤ 1024 → Reaches (row e.0) 0 rest → 0 < length front + length rest → Changes e front rest at
  between-changed e [] [] at is few r some = absurd (omega arith)
  between-changed e [] (first ∷ rest) at is few r some = changed-front e first rest at is r
  between-changed e (last ∷ front) rest at is few r some = changed-behind e last front at is few rest

  pub reaches-few : (k at : ℕ) (l : List (B × W)) → Reaches k at l → at ≤ length l
  reaches-few k zero l r = omega arith
  reaches-few k (suc at) [] r = absurd r
  reaches-few k (suc at) (x ∷ l) r = let h = reaches-few k at l r.1 in omega arith

  pub reaches-rest : (k at : ℕ) (l : List (B × W)) → Reaches k at l → Reaches k 0 (drop at l)
  reaches-rest k zero l r = r
  reaches-rest k (suc at) [] r = absurd r
  reaches-rest k (suc at) (x ∷ l) r = reaches-rest k at l r.1

  pub placed-changed : (e : B × W) (l : List (B × W)) (at : ℕ) → Reaches (row e.0) at l → 0 < length l → at ≤ 1024
      → placed_after row near e [] l ≡ changed e (change_by e l at (on_row_at e l at)) l
  placed-changed e l at r some few =
      let whole : reverse_aux (reverse (take at l)) (drop at l) ≡ l = twice-behind (take at l) [] (drop at l) ∙ take-append-drop at l in
      let many : at ≡ length (reverse (take at l)) = sym (length-reverse (take at l) ∙ length-take-le at l (reaches-few (row e.0) at l r)) in
      walked e [] l at r
      ∙ between-changed e (reverse (take at l)) (drop at l) at many few (reaches-rest (row e.0) at l r) (omega (arith, many, length-drop at l, reaches-few (row e.0) at l r))
      ∙ ap (λ (m : List (B × W)). changed e (change_by e m at (on_row_at e m at)) m) whole

  -- ---- the change fits, and says whether the kept list falls
  pub record Fitting (n : ℕ) (c : Change) : Type 0 where
    pub low : c.low ≤ c.high
    pub high : c.high ≤ n

  fits_so : (n at : ℕ) (o near_next near_previous near_last_of : Bool) → at ≤ n → 0 < n → at ≤ 1024 → (near_next ≡ true → at - 1 + 1 < n) → Fitting n (change_of at o near_next near_previous near_last_of)
  unfolding change_of
  fits_so n at o near_next near_previous near_last_of h s few next = rw (le-ltb 1024 at few) (go o near_next near_previous near_last_of next)
    where
      cuts : (o : Bool) → cut (at - 1) o ≤ at - 1 + 1
      cuts true = first? (at - 1)
        where
          first? : (last : ℕ) → pick (eqb last 0) 1 last ≤ last + 1
          first? zero = omega arith
          first? (suc last) = let no : eqb (suc last) 0 ≡ false = ne_eqb (suc last) 0 (λ z. omega arith) in rw no (omega arith)
      cuts false = omega arith

      go : (o near_next near_previous near_last_of : Bool) → (near_next ≡ true → at - 1 + 1 < n) → Fitting n (change_where at o (branch_of o near_next near_previous near_last_of))
      go o true true near_last_of next = let a = cuts o in let b = next refl in record { low = omega arith; high = omega arith }
      go o true false near_last_of next = let a = cuts o in let b = next refl in record { low = omega arith; high = omega arith }
      go o false true near_last_of next = let a = cuts o in record { low = omega arith; high = omega arith }
      go true false false true next = record { low = omega arith; high = omega arith }
      go true false false false next = record { low = omega arith; high = omega arith }
      go false false false near_last_of next = record { low = omega arith; high = omega arith }

  near-inside : (e : B × W) (l : List (B × W)) (i : ℕ) → near_at e l i ≡ true → i < length l
  near-inside e l i h = elim (below? i (length l)) [
    | inl k ↦ k
    | inr k ↦ let z : ◌≡◌ {A = ℕ} 0 1 = cc (le-ltb i (length l) k) in absurd (omega arith)
  ]

  pub change-fits : (e : B × W) (l : List (B × W)) (at : ℕ) (o : Bool) → at ≤ length l → 0 < length l → at ≤ 1024 → Fitting (length l) (change_by e l at o)
  change-fits e l at o h s few =
      fits_so (length l) at o (near_at e l (at - 1 + 1)) (near_at e l (against_at (at - 1) o)) (near_at e l (at - 1)) h s few (near-inside e l (at - 1 + 1))

  pub change-falls : (at : ℕ) (o near_next near_previous near_last_of : Bool) → at ≤ 1024 → (change_of at o near_next near_previous near_last_of).falls ≡ pick near_next (pick near_previous false (eqb at 0)) false
  unfolding change_of
  change-falls at o true true near_last_of few = rw (le-ltb 1024 at few)
  change-falls at o true false near_last_of few = rw (le-ltb 1024 at few)
  change-falls at o false true near_last_of few = rw (le-ltb 1024 at few)
  change-falls at true false false true few = rw (le-ltb 1024 at few)
  change-falls at true false false false few = rw (le-ltb 1024 at few)
  change-falls at false false false near_last_of few = rw (le-ltb 1024 at few)
