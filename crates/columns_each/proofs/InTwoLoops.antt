-- A column written over in place, entry by entry; and a column narrowed and then moved to its rows, in place or by way of another, is quantised. Assumes nothing.
use Rattle.std.proofs.Common.{◌≡◌, ℕ, zero, suc, ◌+◌, ◌<◌, ◌≤◌, min, List, [], ◌∷◌, map, length, get_or, take, drop, set, sym, refl, ap, ◌∙◌, add-one, arith, length-take-le, drop-cons, get_or-take, drop-set-lt}
use lib.Ieee.{Float}
use Rattle.ieee.specs.Narrowing.{narrow}
use Rattle.rows.specs.Rows.{quantized, quantized32, on_grid, on_grid32}
use Rattle.limits.specs.Numbers.{miss, misses}
use Rattle.columns.specs.Each.{laid_each}
use Rattle.columns.proofs.LaidEach.{LayingEach, begun, turned, laid-all}

module _ {A : Type 0} (f : A → A) where
  -- of the first n entries i are written over, and the rest is as it was
  pub record Rewriting (old : List A) (n : ℕ) (out : List A) (i : ℕ) : Type 0 where
    pub laying : LayingEach f (take n old) old n out i
    pub rest : drop i out ≡ drop i old

  pub rewriting_none : (old : List A) (n : ℕ) → n ≤ length old → Rewriting old n old 0
  rewriting_none old n h = record { laying = begun (omega (arith, length-take-le n old h)); rest = refl }

  module _ {old : List A} {n : ℕ} {out : List A} {i : ℕ} (d : A) (so : Rewriting old n out i) (more : i < n) (inside : n ≤ length old) where
    both : get_or out i d ∷ drop (suc i) out ≡ get_or old i d ∷ drop (suc i) old
    both = sym (drop-cons out i d (omega (arith, so.laying.long))) ∙ so.rest ∙ drop-cons old i d (omega arith)

    -- the entry at hand is as it was given
    pub rewriting_here : get_or (take n old) i d ≡ get_or out i d
    rewriting_here = let same : get_or out i d ≡ get_or old i d = cc both in get_or-take n old i d more ∙ sym same

    pub rewriting_more : {y : A} → y ≡ f (get_or out i d) → Rewriting old n (set out i y) (i + 1)
    rewriting_more {y} e =
        let same : get_or out i d ≡ get_or old i d = cc both in
        let tail : drop (suc i) out ≡ drop (suc i) old = cc both in
        record {
          laying = turned so.laying d more (e ∙ ap f (same ∙ sym (get_or-take n old i d more)));
          rest = rw (add-one i) (drop-set-lt (suc i) out i y (omega arith) ∙ tail);
        }

abbrev pub move : Float → Float
move beat = quantized32 beat

pub narrowed_then_moved : (from old : List Float) (n : ℕ) → n ≡ min (length from) (length old) → laid_each move (take n (laid_each narrow from old)) (laid_each narrow from old) ≡ laid_each (λ (beat : Float). quantized beat) from old
unfolding laid_each
narrowed_then_moved [] old n e = let none : n ≡ 0 = omega arith in rw none
narrowed_then_moved (x ∷ from) [] n e = let none : n ≡ 0 = omega arith in rw none
narrowed_then_moved (x ∷ from) (y ∷ old) zero e = absurd (omega arith)
narrowed_then_moved (x ∷ from) (y ∷ old) (suc n) e = ap (◌∷◌ (quantized x)) (narrowed_then_moved from old n (omega arith))

-- and what is narrowed is off the grid where what was given is
pub narrowed_then_counted : (from old : List Float) (n : ℕ) → n ≡ min (length from) (length old) → misses on_grid32 (take n (laid_each narrow from old)) ≡ misses on_grid (take (length old) from)
unfolding laid_each misses on_grid
narrowed_then_counted [] [] n e = let none : n ≡ 0 = omega arith in rw none
narrowed_then_counted [] (y ∷ old) n e = let none : n ≡ 0 = omega arith in rw none
narrowed_then_counted (x ∷ from) [] n e = let none : n ≡ 0 = omega arith in rw none
narrowed_then_counted (x ∷ from) (y ∷ old) zero e = absurd (omega arith)
narrowed_then_counted (x ∷ from) (y ∷ old) (suc n) e = ap (λ (m : ℕ). miss on_grid32 (narrow x) + m) (narrowed_then_counted from old n (omega arith))

moved-map : (from old : List Float) → laid_each move (map narrow from) old ≡ laid_each (λ (beat : Float). quantized beat) from old
unfolding laid_each
moved-map [] old = refl
moved-map (x ∷ from) [] = refl
moved-map (x ∷ from) (y ∷ old) = ap (◌∷◌ (quantized x)) (moved-map from old)

-- by way of a column of the same length
pub moved-narrowed : (from between old : List Float) → length from ≡ length between → laid_each move (laid_each narrow from between) old ≡ laid_each (λ (beat : Float). quantized beat) from old
moved-narrowed from between old same = ap (λ (l : List Float). laid_each move l old) (laid-all narrow from between same) ∙ moved-map from old
