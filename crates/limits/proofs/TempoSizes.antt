-- A tempo that is taken, where 0 is not, is from one part of 2 ^ 20 to 2 ^ 30 in size; and one that does not lie inside that part is at least of its size. Assumes nothing.
use Prim.Native.Nat.{ℕ, ◌+◌, ◌*◌, ◌^◌, ◌≤◌}
use mathlib.Core.Path.{◌≡◌, refl, sym, subst}
use mathlib.Core.Bool.{Bool, true, false}
use mathlib.Core.Logic.{⊎_elim}
use native.Mathlib.Omega.{arith}
use borrow.Author.Tests.{ltb-true, ltb-false}
use lib.Dec.{T}
use lib.IntN.{ℤ, pos, negsuc}
use lib.Ieee.{Float, nan, inf, fin, up, down, neg, lt, eq, le}
use lib.Ieee.Fits.{down_pos}
use Rattle.ieee.specs.Constants.{plus_zero}
use Rattle.picks.specs.Pick.{pick}
use Rattle.ieee.proofs.FloatOrder.{le_sizes, sizes_le, lt_or_le}
use Rattle.ieee.proofs.Magnitude.{Sized}
use Rattle.ieee.proofs.SizesAddUp.{AtLeast}
use Rattle.limits.specs.Numbers.{in_range, tempo, power, size_of}
use Rattle.limits.specs.Plain.{inside}
use Rattle.limits.proofs.TakenWithin.{taken-sized}

abbrev pub least : Float
least = power (negsuc 19)

pub tempo_at_most : (zero_too : Bool) (x : Float) → in_range (tempo zero_too) x ≡ true → Sized 30 x
tempo_at_most zero_too x h = taken-sized 30 least zero_too x h

second-test : (most reaches zero beyond : Bool) → pick most (pick reaches true (pick zero false false)) (pick beyond false false) ≡ true → T reaches
second-test true true zero beyond e = tt
second-test true false true beyond e = subst T (sym e) tt
second-test true false false beyond e = subst T (sym e) tt
second-test false reaches zero true e = absurd (subst T (sym e) tt)
second-test false reaches zero false e = absurd (subst T (sym e) tt)

module _ (m : ℕ) (e : ℤ) where
  from-least : T (le least (fin false m e)) → down e ≤ 2 ^ 20 * (m * up e)
  from-least h =
      let sizes : 1 * down e ≤ m * up e * 2 ^ 20 = le_sizes least (fin false m e) false false 1 (2 ^ 20) (m * up e) (down e) (refl, refl) (refl, refl) h in
      omega arith

  none_below : T (le least (fin true m e)) → down e ≤ 2 ^ 20 * (m * up e)
  none_below h =
      let D = down_pos e in
      let sizes = le_sizes least (fin true m e) false true 1 (2 ^ 20) (m * up e) (down e) (refl, refl) (refl, refl) h in
      absurd (omega (arith, sizes.0))

  large : (s : Bool) → T (le least (size_of (fin s m e))) → down e ≤ 2 ^ 20 * (m * up e)
  unfolding lt neg
  large s = go s (lt (fin s m e) plus_zero) refl
    where
      go : (s t : Bool) → lt (fin s m e) plus_zero ≡ t → T (le least (pick t (neg (fin s m e)) (fin s m e))) → down e ≤ 2 ^ 20 * (m * up e)
      go false true q h = absurd (omega (arith, ltb-true (m * up e * 1) (0 * 1 * down e) q))
      go false false q h = from-least h
      go true true q h = from-least h
      go true false q h = none_below h

pub tempo_at_least : (x : Float) → in_range (tempo false) x ≡ true → AtLeast 20 x
unfolding in_range le lt eq neg
tempo_at_least nan h = absurd (subst T (sym h) tt)
tempo_at_least (inf true) h = absurd (subst T (sym h) tt)
tempo_at_least (inf false) h = absurd (subst T (sym h) tt)
tempo_at_least (fin s m e) h = record {
  negative = s;
  num = m * up e;
  den = down e;
  den_pos = down_pos e;
  value = (refl, refl);
  large = large m e s (second-test (le (size_of (fin s m e)) (power (pos 30))) (le least (size_of (fin s m e))) (eq (size_of (fin s m e)) plus_zero) (lt (size_of (fin s m e)) (inf false)) h);
}

-- ---- and back
module _ (m : ℕ) (e : ℤ) where
  clear : down e ≤ 2 ^ 20 * (m * up e) → T (le least (fin false m e))
  clear l = sizes_le least (fin false m e) false false 1 (2 ^ 20) (m * up e) (down e) (omega arith) (down_pos e) (refl, refl) (refl, refl) (omega (arith, l))

  by_size : (s : Bool) → down e ≤ 2 ^ 20 * (m * up e) → T (le least (size_of (fin s m e)))
  unfolding lt neg
  by_size s l = go s (lt (fin s m e) plus_zero) refl
    where
      go : (s t : Bool) → lt (fin s m e) plus_zero ≡ t → T (le least (pick t (neg (fin s m e)) (fin s m e)))
      go false true q = absurd (omega (arith, ltb-true (m * up e * 1) (0 * 1 * down e) q))
      go false false q = clear l
      go true true q = clear l
      go true false q = absurd (omega (arith, l, down_pos e, ltb-false 0 (m * up e * 1 + 0 * 1 * down e) q))

  above_it : (s : Bool) → T (le least (fin s m e)) → down e ≤ 2 ^ 20 * (m * up e)
  above_it false h = from-least m e h
  above_it true h = none_below m e h

  below_it : (s : Bool) → T (le (fin s m e) (neg least)) → down e ≤ 2 ^ 20 * (m * up e)
  unfolding neg
  below_it false h =
      let D = down_pos e in
      let sizes = le_sizes (fin false m e) (fin true 1 (negsuc 19)) false true (m * up e) (down e) 1 (2 ^ 20) (refl, refl) (refl, refl) h in
      absurd (omega (arith, sizes.1))
  below_it true h =
      let sizes : 1 * down e ≤ m * up e * 2 ^ 20 = le_sizes (fin true m e) (fin true 1 (negsuc 19)) true true (m * up e) (down e) 1 (2 ^ 20) (refl, refl) (refl, refl) h in
      omega arith

  pub outside-reaches : (s : Bool) → inside least (fin s m e) ≡ false → T (le least (size_of (fin s m e)))
  unfolding inside neg
  outside-reaches s h = go (lt (neg least) (fin s m e)) (lt (fin s m e) least) refl refl h
    where
      go : (t u : Bool) → lt (neg least) (fin s m e) ≡ t → lt (fin s m e) least ≡ u → pick t u false ≡ false → T (le least (size_of (fin s m e)))
      go true true p q h = absurd (subst T h tt)
      go true false p q h = by_size s (above_it s (⊎_elim (λ l. absurd (subst T q l)) (λ l. l) (lt_or_le (fin s m e) least tt tt)))
      go false u p q h = by_size s (below_it s (⊎_elim (λ l. absurd (subst T p l)) (λ l. l) (lt_or_le (neg least) (fin s m e) tt tt)))
