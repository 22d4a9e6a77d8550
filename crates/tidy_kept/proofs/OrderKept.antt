-- A kept list that never falls falls after one more entry only where that comes before all others and moves the second one to its beat. Assumes nothing.
use Prim.Native.Nat.{ℕ, zero, suc, ◌+◌, ◌-◌, ◌≤◌, ◌<◌}
use mathlib.Core.Path.{◌≡◌, refl, sym, ap, ◌∙◌}
use mathlib.Core.Bool.{Bool, true, false, not}
use mathlib.Core.List.{List, [], ◌∷◌, reverse, reverse_aux}
use native.Mathlib.Omega.{arith}
use lib.ListN.{length, take, drop}
use lib.Dec.{eqb}
use borrow.Author.Tests.{lt-leb, le-leb, ne_eqb}
use Rattle.picks.specs.Pick.{pick}
use Rattle.order.specs.Order.{never_falls, may_precede, NeverFalls}
use Rattle.order.proofs.OrderedList.{never_falls_yes}
use Rattle.tidy_kept.specs.Keeping.{row_of, nearby, moved_to, at_front, on_row_of, previous, cleared, settled, amid, placed_between, placed_after}
use Rattle.tidy_kept.proofs.PlacedByPlace.{Reaches, walked, reaches-rest, near_at, against_at, change_by, near-behind, change-falls}

module _ {B W : Type 0} (row : B → ℕ) (near : W → W → Bool) where
  -- rows that never fall, from k on; and rows of a front, nearest first, that are at most k and never rise
  abbrev Up : ℕ → List (B × W) → Type 0
  Up k [] = Unit {0}
  Up k (x ∷ l) = (k ≤ row x.0) × Up (row x.0) l

  abbrev Down : ℕ → List (B × W) → Type 0
  Down k [] = Unit {0}
  Down k (x ∷ l) = (row x.0 ≤ k) × Down (row x.0) l

  up_from : (j k : ℕ) (l : List (B × W)) → j ≤ k → Up k l → Up j l
  up_from j k [] h u = tt
  up_from j k (x ∷ l) h u = (omega (arith, u.0), u.1)

  down_to : (j k : ℕ) (l : List (B × W)) → j ≤ k → Down j l → Down k l
  down_to j k [] h u = tt
  down_to j k (x ∷ l) h u = (omega (arith, u.0), u.1)

  up_rest : (k : ℕ) (x : B × W) (l : List (B × W)) → Up k (x ∷ l) → Up k l
  up_rest k x l u = up_from k (row x.0) l u.0 u.1

  down-rest : (k : ℕ) (x : B × W) (l : List (B × W)) → Down k (x ∷ l) → Down k l
  down-rest k x l u = down_to (row x.0) k l u.0 u.1

  up-falls : (x : B × W) (l : List (B × W)) → Up (row x.0) l → never_falls (row_of row near) (x ∷ l) ≡ true
  unfolding never_falls may_precede
  up-falls x [] u = refl
  up-falls x (y ∷ l) u = rw (le-leb (row x.0) (row y.0) u.0) (up-falls y l u.1)

  up-never : (k : ℕ) (l : List (B × W)) → Up k l → never_falls (row_of row near) l ≡ true
  up-never k [] u = unfold never_falls in refl
  up-never k (x ∷ l) u = up-falls x l u.1

  around : (k : ℕ) (front l : List (B × W)) → Down k front → Up k l → never_falls (row_of row near) (reverse_aux front l) ≡ true
  around k [] l d u = up-never k l u
  around k (x ∷ front) l d u = around (row x.0) front (x ∷ l) d.1 (omega arith, up_from (row x.0) k l d.0 u)

  never-up : (x : B × W) (l : List (B × W)) → NeverFalls (row_of row near) (x ∷ l) → Up (row x.0) l
  never-up x [] n = tt
  never-up x (y ∷ l) n = (n.0.0, never-up y l n.1)

  up-all : (l : List (B × W)) → never_falls (row_of row near) l ≡ true → Up 0 l
  up-all [] n = tt
  up-all (x ∷ l) n = (omega arith, never-up x l (never_falls_yes (row_of row near) (x ∷ l) n))

  -- ---- where the entry is placed
  around-place : (j k at : ℕ) (front l : List (B × W)) → j ≤ k → Down j front → Up j l → Reaches row near k at l → Down k (reverse_aux (take at l) front) × Up k (drop at l)
  around-place j k zero front [] h d u r = (down_to j k front h d, tt)
  around-place j k zero front (x ∷ l) h d u r = (down_to j k front h d, (omega (arith, r), u.1))
  around-place j k (suc at) front [] h d u r = absurd r
  around-place j k (suc at) front (x ∷ l) h d u r =
      around-place (row x.0) k at (x ∷ front) l r.0 (omega arith, down_to j (row x.0) front u.0 d) u.1 r.1

  module _ (e : B × W) where
    abbrev k : ℕ
    k = row e.0

    -- whether it comes before all others and moves the second one
    abbrev pub falls_between : List (B × W) → List (B × W) → Bool
    falls_between [] [] = false
    falls_between [] (first ∷ []) = false
    falls_between [] (first ∷ next ∷ rest) = pick (nearby row near e next) (pick (nearby row near e first) false true) false
    falls_between (last ∷ front) rest = false

    cleared-down : (last : B × W) (front : List (B × W)) → Down k (last ∷ front) → Down k (cleared row near e last front)
    unfolding cleared
    cleared-down last [] d = d
    cleared-down last (before ∷ front) d = go (on_row_of row near last e)
      where
        go : (o : Bool) → Down k (pick o (before ∷ front) (last ∷ before ∷ front))
        go true = down-rest k last (before ∷ front) d
        go false = d

    settled-down : (last : B × W) (front : List (B × W)) → Down k (last ∷ front) → Down k (settled row near e last front)
    unfolding settled
    settled-down last front d = go (on_row_of row near last e) (nearby row near e last)
      where
        go : (o n : Bool) → Down k (pick o (pick n (last ∷ front) (e ∷ front)) (e ∷ last ∷ front))
        go true true = d
        go true false = (omega arith, down-rest k last front d)
        go false n = (omega arith, d)

    amid-keeps : (last : B × W) (front rest : List (B × W)) → Down k (last ∷ front) → Up k rest → never_falls (row_of row near) (amid row near e last front rest) ≡ true
    unfolding amid
    amid-keeps last front [] d u = go (nearby row near e (previous row near e last front))
      where
        go : (p : Bool) → never_falls (row_of row near) (reverse_aux (pick p (cleared row near e last front) (settled row near e last front)) []) ≡ true
        go true = around k (cleared row near e last front) [] (cleared-down last front d) tt
        go false = around k (settled row near e last front) [] (settled-down last front d) tt
    amid-keeps last front (next ∷ rest) d u = go (nearby row near e next) (nearby row near e (previous row near e last front))
      where
        go : (n p : Bool) → never_falls (row_of row near)
            (pick n (pick p (reverse_aux (cleared row near e last front) rest) (reverse_aux (cleared row near e last front) (moved_to row near next e ∷ rest)))
            (pick p (reverse_aux (cleared row near e last front) (next ∷ rest)) (reverse_aux (settled row near e last front) (next ∷ rest)))) ≡ true
        go true true = around k (cleared row near e last front) rest (cleared-down last front d) (up_rest k next rest u)
        go true false = around k (cleared row near e last front) (moved_to row near next e ∷ rest) (cleared-down last front d) (omega arith, up_rest k next rest u)
        go false true = around k (cleared row near e last front) (next ∷ rest) (cleared-down last front d) u
        go false false = around k (settled row near e last front) (next ∷ rest) (settled-down last front d) u

    front-keeps : (first : B × W) (rest : List (B × W)) → k < row first.0 → Up k (first ∷ rest) → never_falls (row_of row near) (at_front row near e first rest) ≡ not (falls_between [] (first ∷ rest))
    unfolding at_front
    front-keeps first [] h u = go (nearby row near e first)
      where
        go : (n : Bool) → never_falls (row_of row near) (pick n (first ∷ []) (e ∷ first ∷ [])) ≡ true
        go true = up-falls first [] tt
        go false = up-falls e (first ∷ []) u
    front-keeps first (next ∷ rest) h u = go (nearby row near e next) (nearby row near e first)
      where
        fall : never_falls (row_of row near) (first ∷ moved_to row near next e ∷ rest) ≡ false
        fall = unfold never_falls may_precede in rw (lt-leb (row first.0) k h)

        go : (n p : Bool) → never_falls (row_of row near)
            (pick n (pick p (first ∷ rest) (first ∷ moved_to row near next e ∷ rest)) (pick p (first ∷ next ∷ rest) (e ∷ first ∷ next ∷ rest)))
            ≡ not (pick n (pick p false true) false)
        go true true = up-falls first rest (up_rest (row first.0) next rest u.1)
        go true false = fall
        go false true = up-falls first (next ∷ rest) u.1
        go false false = up-falls e (first ∷ next ∷ rest) u

    between-keeps : (front rest : List (B × W)) → Down k front → Up k rest → Reaches row near k 0 rest → never_falls (row_of row near) (placed_between row near e front rest) ≡ not (falls_between front rest)
    unfolding placed_between
    between-keeps [] [] d u r = up-falls e [] tt
    between-keeps [] (first ∷ rest) d u r = front-keeps first rest r u
    between-keeps (last ∷ front) rest d u r = amid-keeps last front rest d u

    behind-some : (m : List (B × W)) (x : B × W) (front rest : List (B × W)) → falls_between (reverse_aux m (x ∷ front)) rest ≡ false
    behind-some [] x front rest = refl
    behind-some (y ∷ m) x front rest = behind-some m y (x ∷ front) rest

    never : (n p : Bool) → pick n (pick p false false) false ≡ false
    never true true = refl
    never true false = refl
    never false p = refl

    -- the change says so
    flag-falls : (l : List (B × W)) (at : ℕ) (o : Bool) → at ≤ 1024 → Reaches row near k at l → 0 < length l → (change_by row near e l at o).falls ≡ falls_between (reverse (take at l)) (drop at l)
    flag-falls [] zero o few r some = absurd (omega arith)
    flag-falls [] (suc at) o few r some = absurd r
    flag-falls (first ∷ []) zero o few r some = change-falls row near 0 o _ _ _ few
    flag-falls (first ∷ next ∷ rest) zero true few r some =
        change-falls row near 0 true _ _ _ few ∙ rw (near-behind row near e [] first (next ∷ rest) 0 refl, near-behind row near e (first ∷ []) next rest 1 refl)
    flag-falls (first ∷ next ∷ rest) zero false few r some =
        change-falls row near 0 false _ _ _ few ∙ rw (near-behind row near e [] first (next ∷ rest) 0 refl, near-behind row near e (first ∷ []) next rest 1 refl)
    flag-falls (x ∷ l) (suc at) o few r some =
        let no : eqb (suc at) 0 ≡ false = ne_eqb (suc at) 0 (λ z. omega arith) in
        change-falls row near (suc at) o _ _ _ few ∙ rw no (never (near_at row near e (x ∷ l) (suc at - 1 + 1)) (near_at row near e (x ∷ l) (against_at row near (suc at - 1) o))) ∙ sym (behind-some (take at l) x [] (drop at l))

    pub placed-falls : (l : List (B × W)) (at : ℕ) (o : Bool) → never_falls (row_of row near) l ≡ true → at ≤ 1024 → Reaches row near k at l → 0 < length l
        → (change_by row near e l at o).falls ≡ not (never_falls (row_of row near) (placed_after row near e [] l))
    placed-falls l at o n few r some =
        let place = around-place 0 k at [] l (omega arith) tt (up-all l n) r in
        let kept : never_falls (row_of row near) (placed_after row near e [] l) ≡ not (falls_between (reverse (take at l)) (drop at l)) =
        ap (never_falls (row_of row near)) (walked row near e [] l at r) ∙ between-keeps (reverse (take at l)) (drop at l) place.0 place.1 (reaches-rest row near k at l r) in
        flag-falls l at o few r some ∙ sym (ap not kept ∙ twice (falls_between (reverse (take at l)) (drop at l)))
      where
        twice : (b : Bool) → not (not b) ≡ b
        twice true = refl
        twice false = refl
