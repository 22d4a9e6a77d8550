-- A loop that lays a call's answers over a lent column, whatever the numbers are: what holds where it begins, after each turn, and where it ends.
-- Assumes nothing.
use Prim.Native.Nat.{ℕ, suc, ◌+◌, ◌<◌, ◌≤◌, min}
use mathlib.Core.Path.{◌≡◌, refl, sym, ap, ◌∙◌}
use mathlib.Core.List.{List, [], ◌∷◌, ◌++◌, map}
use native.Mathlib.Numerals.{add-one}
use native.Mathlib.Omega.{arith}
use lib.ListN.{length, take, drop, get_or, set, length-set, length-drop, take-append-drop}
use lib.Seq.{drop-cons, take-suc-set, drop-set-lt, append_snoc}
use Rattle.columns.specs.Each.{laid_each}

module _ {A B : Type 0} where
  -- Of n answers the first i stand in `out`, and the others are still to be laid over the rest of it.
  pub record LayingEach (f : A → B) (from : List A) (old : List B) (n : ℕ) (out : List B) (i : ℕ) : Type 0 where
    pub many : n ≡ min (length from) (length old)
    pub long : length out ≡ length old
    pub laid : take i out ++ laid_each f (drop i from) (drop i out) ≡ laid_each f from old

  untouched : (f : A → B) (from : List A) (old : List B) → min (length from) (length old) ≡ 0 → laid_each f from old ≡ old
  unfolding laid_each
  untouched f [] old none = refl
  untouched f (x ∷ from) [] none = refl
  untouched f (x ∷ from) (y ∷ old) none = absurd (omega arith)

  module _ {f : A → B} {from : List A} {old : List B} {n : ℕ} where
    pub begun : n ≡ min (length from) (length old) → LayingEach f from old n old 0
    begun many = record { many = many; long = refl; laid = refl }

    module _ {out : List B} {i : ℕ} (so_far : LayingEach f from old n out i) where
      pub turned : (x : A) {y : B} → i < n → y ≡ f (get_or from i x) → LayingEach f from old n (set out i y) (i + 1)
      unfolding laid_each
      turned x {y} more answer =
          let within : i < length out = omega arith in
          record {
            many = so_far.many;
            long = length-set out i y ∙ so_far.long;
            laid =
                rw (add-one i, take-suc-set out i y within, drop-set-lt (suc i) out i y (omega arith), append_snoc, answer)
                (rw (drop-cons from i x (omega arith), drop-cons out i y within) at so_far.laid);
          }

      pub ended : n ≤ i → out ≡ laid_each f from old
      ended past =
          sym (take-append-drop i out) ∙ (rw (untouched f (drop i from) (drop i out) (simp length-drop (omega arith))) at so_far.laid)

  -- where both columns are of one length, nothing of the old one is left
  pub laid-all : (f : A → B) (from : List A) (old : List B) → length from ≡ length old → laid_each f from old ≡ map f from
  unfolding laid_each
  laid-all f [] [] same = refl
  laid-all f [] (y ∷ old) same = absurd (omega arith)
  laid-all f (x ∷ from) [] same = absurd (omega arith)
  laid-all f (x ∷ from) (y ∷ old) same = ap (◌∷◌ (f x)) (laid-all f from old (omega arith))
