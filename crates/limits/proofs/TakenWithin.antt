-- A number is taken up to 2 ^ k exactly where it lies from -2 ^ k to 2 ^ k; and what may be dropped for not being finite is taken like the rest where it is finite. Assumes nothing.
use Prim.Native.Nat.{ℕ, ◌+◌, ◌*◌, ◌^◌, ◌≤◌, ◌<◌}
use mathlib.Core.Path.{◌≡◌, refl, sym, ap, subst}
use mathlib.Core.Bool.{Bool, true, false}
use native.Mathlib.Nat.{one-mul}
use native.Mathlib.Omega.{arith}
use borrow.Author.Tests.{ltb-true, ltb-false}
use lib.Dec.{T}
use lib.IntN.{ℤ, pos}
use lib.Ieee.{Float, nan, inf, fin, up, down, neg, lt, eq, le}
use lib.Ieee.Fits.{down_pos}
use lib.Ieee.Scale.{finite}
use Rattle.ieee.specs.Constants.{plus_zero}
use Rattle.picks.specs.Pick.{pick}
use Rattle.ieee.specs.Magnitude.{within_power}
use Rattle.ieee.proofs.FloatOrder.{le_sizes, sizes_le}
use Rattle.ieee.proofs.Magnitude.{Sized, sized, sized-within}
use Rattle.limits.specs.declared.Range.{Range}
use Rattle.limits.specs.Numbers.{in_range, up_to, or_dropped, power, size_of}

yes : (t : Bool) → T t → t ≡ true
yes true h = refl
yes false h = absurd h

module _ (k : ℕ) where
  pub first-test : (most other : Bool) (beyond : Bool) → pick most other (pick beyond false false) ≡ true → T most
  first-test true other beyond e = tt
  first-test false other true e = subst T (sym e) tt
  first-test false other false e = subst T (sym e) tt

  up-to : (m : ℕ) (e : ℤ) → T (le (fin false m e) (power (pos k))) → m * up e ≤ 2 ^ k * down e
  up-to m e h =
      let sizes : m * up e * 1 ≤ 2 ^ k * down e = le_sizes (fin false m e) (power (pos k)) false false (m * up e) (down e) (2 ^ k) 1 (refl, refl) (refl, ap (λ (n : ℕ). n * 1) (one-mul (2 ^ k))) h in
      omega arith

  -- the size is that of the number, with the sign clear, or set where there is nothing to it
  small : (s : Bool) (m : ℕ) (e : ℤ) → T (le (size_of (fin s m e)) (power (pos k))) → m * up e ≤ 2 ^ k * down e
  unfolding lt neg
  small s m e = go s (lt (fin s m e) plus_zero) refl
    where
      go : (s t : Bool) → lt (fin s m e) plus_zero ≡ t → T (le (pick t (neg (fin s m e)) (fin s m e)) (power (pos k))) → m * up e ≤ 2 ^ k * down e
      go false true q h = absurd (omega (arith, ltb-true (m * up e * 1) (0 * 1 * down e) q))
      go false false q h = up-to m e h
      go true true q h = up-to m e h
      go true false q h = omega (arith, ltb-false 0 (m * up e * 1 + 0 * 1 * down e) q)

  -- by any range up to 2 ^ k from which nothing is dropped
  pub taken-sized : (least : Float) (zeros : Bool) (x : Float) → in_range (record { least = least; most = power (pos k); zeros = zeros; dropped = false }) x ≡ true → Sized k x
  unfolding in_range le lt eq neg
  taken-sized least zeros nan h = absurd (subst T (sym h) tt)
  taken-sized least zeros (inf true) h = absurd (subst T (sym h) tt)
  taken-sized least zeros (inf false) h = absurd (subst T (sym h) tt)
  taken-sized least zeros (fin s m e) h = record {
    negative = s;
    num = m * up e;
    den = down e;
    den_pos = down_pos e;
    value = (refl, refl);
    small = small s m e (first-test (le (size_of (fin s m e)) (power (pos k))) _ (lt (size_of (fin s m e)) (inf false)) h);
  }

  pub taken-within : (x : Float) → in_range (up_to k) x ≡ true → T (within_power k x)
  taken-within x h = sized-within k x (taken-sized plus_zero true x h)

  -- ---- and back
  record Taken (size : Float) : Type 0 where
    most : T (le size (power (pos k)))
    least : T (le plus_zero size)

  clear : (m : ℕ) (e : ℤ) (num den : ℕ) → 0 < den → m * up e * den ≡ num * down e → num ≤ 2 ^ k * den → Taken (fin false m e)
  clear m e num den D v l = record {
    most = sizes_le (fin false m e) (power (pos k)) false false num den (2 ^ k) 1 D (omega arith) (refl, v) (refl, ap (λ (n : ℕ). n * 1) (one-mul (2 ^ k))) (omega arith);
    least = sizes_le plus_zero (fin false m e) false false 0 1 (m * up e) (down e) (omega arith) (down_pos e) (refl, refl) (refl, refl) (omega arith);
  }

  set : (m : ℕ) (e : ℤ) → m * up e ≡ 0 → Taken (fin true m e)
  set m e z = record {
    most = sizes_le (fin true m e) (power (pos k)) true false (m * up e) (down e) (2 ^ k) 1 (down_pos e) (omega arith) (refl, refl) (refl, ap (λ (n : ℕ). n * 1) (one-mul (2 ^ k))) tt;
    least = sizes_le plus_zero (fin true m e) false true 0 1 (m * up e) (down e) (omega arith) (down_pos e) (refl, refl) (refl, refl) (omega arith, omega arith);
  }

  sized-taken : (s : Bool) (m : ℕ) (e : ℤ) → Sized k (fin s m e) → Taken (size_of (fin s m e))
  unfolding lt neg
  sized-taken s m e z = go s (lt (fin s m e) plus_zero) refl z.value.1
    where
      go : (s t : Bool) → lt (fin s m e) plus_zero ≡ t → m * up e * z.den ≡ z.num * down e → Taken (pick t (neg (fin s m e)) (fin s m e))
      go false true q v = absurd (omega (arith, ltb-true (m * up e * 1) (0 * 1 * down e) q))
      go false false q v = clear m e z.num z.den z.den_pos v z.small
      go true true q v = clear m e z.num z.den z.den_pos v z.small
      go true false q v = set m e (omega (arith, ltb-false 0 (m * up e * 1 + 0 * 1 * down e) q))

  pub within-taken : (x : Float) → T (within_power k x) → in_range (up_to k) x ≡ true
  unfolding in_range
  within-taken nan h = absurd (sized k nan h).value
  within-taken (inf s) h = absurd (sized k (inf s) h).value
  within-taken (fin s m e) h =
      let size = sized-taken s m e (sized k (fin s m e) h) in
      rw (yes (le (size_of (fin s m e)) (power (pos k))) size.most, yes (le plus_zero (size_of (fin s m e))) size.least)

-- ---- finite numbers
below_infinity : (x : Float) → T (finite x) → lt (size_of x) (inf false) ≡ true
unfolding lt neg
below_infinity nan h = absurd h
below_infinity (inf s) h = absurd h
below_infinity (fin s m e) h = go (lt (fin s m e) plus_zero)
  where
    go : (t : Bool) → lt (pick t (neg (fin s m e)) (fin s m e)) (inf false) ≡ true
    go true = refl
    go false = refl

pub finite-taken : (range : Range) (x : Float) → T (finite x) → in_range (or_dropped range) x ≡ in_range range x
unfolding in_range
finite-taken range x h = rw (below_infinity x h)
