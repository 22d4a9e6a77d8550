-- No more entries are kept than are given, whatever they are. Assumes nothing.
use Prim.Native.Nat.{ℕ, suc, ◌+◌, ◌≤◌}
use mathlib.Core.Bool.{Bool, true, false}
use mathlib.Core.List.{List, [], ◌∷◌, reverse, reverse_aux}
use native.Mathlib.Omega.{arith}
use lib.Dec.{ltb, leb}
use lib.ListN.{length, length-reverse, length-reverse_aux}
use Rattle.picks.specs.Pick.{pick}
use Rattle.order.specs.Order.{run, never_falls}
use Rattle.tidy_kept.specs.Keeping.{row_of, nearby, on_last_row, keep, moved_to, at_front, on_row_of, previous, cleared, settled, amid, placed_between, placed_after, placed, kept_of}

pick_few : {A : Type 0} (n : ℕ) (t : Bool) (x y : List A) → length x ≤ n → length y ≤ n → length (pick t x y) ≤ n
pick_few n true x y h k = h
pick_few n false x y h k = k

run-few : {A B : Type 0} (step : A → List B → List B) → ((e : A) (s : List B) → length (step e s) ≤ suc (length s)) → (s : List B) (l : List A) → length (run step s l) ≤ length s + length l
unfolding run
run-few step one s [] = omega arith
run-few step one s (e ∷ l) = omega (arith, run-few step one (step e s) l, one e s)

module _ {B W : Type 0} (row : B → ℕ) (near : W → W → Bool) where
  keep-few : (e : B × W) (kept : List (B × W)) → length (keep row near e kept) ≤ suc (length kept)
  unfolding keep on_last_row
  keep-few e [] = omega arith
  keep-few e (last ∷ []) =
      pick_few 2 (ltb (row_of row near last) (row_of row near e)) (pick (nearby row near e last) (last ∷ []) (e ∷ last ∷ [])) (pick (nearby row near e last) (last ∷ []) (e ∷ []))
      (pick_few 2 (nearby row near e last) (last ∷ []) (e ∷ last ∷ []) (omega arith) (omega arith))
      (pick_few 2 (nearby row near e last) (last ∷ []) (e ∷ []) (omega arith) (omega arith))
  keep-few e (last ∷ before ∷ kept) =
      let n = suc (suc (suc (length kept))) in
      pick_few n (ltb (row_of row near last) (row_of row near e)) (pick (nearby row near e last) (last ∷ before ∷ kept) (e ∷ last ∷ before ∷ kept))
      (pick (nearby row near e before) (before ∷ kept) (pick (nearby row near e last) (last ∷ before ∷ kept) (e ∷ before ∷ kept)))
      (pick_few n (nearby row near e last) (last ∷ before ∷ kept) (e ∷ last ∷ before ∷ kept) (omega arith) (omega arith))
      (pick_few n (nearby row near e before) (before ∷ kept) (pick (nearby row near e last) (last ∷ before ∷ kept) (e ∷ before ∷ kept)) (omega arith)
      (pick_few n (nearby row near e last) (last ∷ before ∷ kept) (e ∷ before ∷ kept) (omega arith) (omega arith)))

  module _ (e : B × W) where
    front-few : (first : B × W) (rest : List (B × W)) → length (at_front row near e first rest) ≤ suc (suc (length rest))
    unfolding at_front
    front-few first [] = pick_few 2 (nearby row near e first) (first ∷ []) (e ∷ first ∷ []) (omega arith) (omega arith)
    front-few first (next ∷ rest) =
        let n = suc (suc (suc (length rest))) in
        pick_few n (nearby row near e next) (pick (nearby row near e first) (first ∷ rest) (first ∷ moved_to row near next e ∷ rest))
        (pick (nearby row near e first) (first ∷ next ∷ rest) (e ∷ first ∷ next ∷ rest))
        (pick_few n (nearby row near e first) (first ∷ rest) (first ∷ moved_to row near next e ∷ rest) (omega arith) (omega arith))
        (pick_few n (nearby row near e first) (first ∷ next ∷ rest) (e ∷ first ∷ next ∷ rest) (omega arith) (omega arith))

    cleared-few : (last : B × W) (front : List (B × W)) → length (cleared row near e last front) ≤ suc (length front)
    unfolding cleared
    cleared-few last [] = omega arith
    cleared-few last (before ∷ front) = pick_few (suc (suc (length front))) (on_row_of row near last e) (before ∷ front) (last ∷ before ∷ front) (omega arith) (omega arith)

    settled-few : (last : B × W) (front : List (B × W)) → length (settled row near e last front) ≤ suc (suc (length front))
    unfolding settled
    settled-few last front =
        let n = suc (suc (length front)) in
        pick_few n (on_row_of row near last e) (pick (nearby row near e last) (last ∷ front) (e ∷ front)) (e ∷ last ∷ front)
        (pick_few n (nearby row near e last) (last ∷ front) (e ∷ front) (omega arith) (omega arith)) (omega arith)

    amid-few : (last : B × W) (front rest : List (B × W)) → length (amid row near e last front rest) ≤ suc (suc (length front + length rest))
    unfolding amid
    amid-few last front [] =
        let p = nearby row near e (previous row near e last front) in
        let less = cleared row near e last front in
        let more = settled row near e last front in
        omega (arith, length-reverse_aux (pick p less more) [], pick_few (suc (suc (length front))) p less more (omega (arith, cleared-few last front)) (settled-few last front))
    amid-few last front (next ∷ rest) =
        let n = suc (suc (length front + suc (length rest))) in
        let p = nearby row near e (previous row near e last front) in
        let less = cleared row near e last front in
        let more = settled row near e last front in
        pick_few n (nearby row near e next) (pick p (reverse_aux less rest) (reverse_aux less (moved_to row near next e ∷ rest))) (pick p (reverse_aux less (next ∷ rest)) (reverse_aux more (next ∷ rest)))
        (pick_few n p (reverse_aux less rest) (reverse_aux less (moved_to row near next e ∷ rest))
        (omega (arith, length-reverse_aux less rest, cleared-few last front)) (omega (arith, length-reverse_aux less (moved_to row near next e ∷ rest), cleared-few last front)))
        (pick_few n p (reverse_aux less (next ∷ rest)) (reverse_aux more (next ∷ rest))
        (omega (arith, length-reverse_aux less (next ∷ rest), cleared-few last front)) (omega (arith, length-reverse_aux more (next ∷ rest), settled-few last front)))

    between-few : (front rest : List (B × W)) → length (placed_between row near e front rest) ≤ suc (length front + length rest)
    unfolding placed_between
    between-few [] [] = omega arith
    between-few [] (first ∷ rest) = omega (arith, front-few first rest)
    between-few (last ∷ front) rest = omega (arith, amid-few last front rest)

    after-few : (front rest : List (B × W)) → length (placed_after row near e front rest) ≤ suc (length front + length rest)
    unfolding placed_after
    after-few front [] = between-few front []
    after-few front (x ∷ rest) =
        pick_few (suc (length front + suc (length rest))) (leb (row_of row near x) (row_of row near e)) (placed_after row near e (x ∷ front) rest) (placed_between row near e front (x ∷ rest))
        (omega (arith, after-few (x ∷ front) rest)) (between-few front (x ∷ rest))

  placed-few : (e : B × W) (kept : List (B × W)) → length (placed row near e kept) ≤ suc (length kept)
  placed-few e kept = omega (arith, after-few e [] kept)

  pub kept-few : (list : List (B × W)) → length (kept_of row near list) ≤ length list
  unfolding kept_of
  kept-few list =
      pick_few (length list) (never_falls (row_of row near) list) (reverse (run (keep row near) [] list)) (run (placed row near) [] list)
      (omega (arith, length-reverse (run (keep row near) [] list), run-few (keep row near) keep-few [] list)) (omega (arith, run-few (placed row near) placed-few [] list))
