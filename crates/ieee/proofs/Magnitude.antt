-- The tests that a number is from -2 ^ k to 2 ^ k hold exactly where it is a fraction of at most 2 ^ k in size. Assumes nothing.
use mathlib.Core.Path.{◌≡◌, refl, sym, ap}
use mathlib.Core.Bool.{Bool, true, false}
use Prim.Native.Nat.{ℕ, ◌*◌, ◌^◌, ◌≤◌, ◌<◌}
use native.Mathlib.Nat.{le_trans, le_of_eq, mul-one, one-mul, zero-lt-suc}
use lib.IntN.{pos}
use lib.Dec.{T}
use lib.Ieee.{Float, nan, inf, fin, up, down, le}
use lib.Ieee.Exact.{HasValue}
use lib.Ieee.Fits.{down_pos, and_i, and_l, and_r}
use lib.Ieee.Scale.{finite}
use Rattle.ieee.specs.Magnitude.{within_power}
use Rattle.ieee.proofs.SignedSizes.{Ordered}
use Rattle.ieee.proofs.FloatOrder.{le_sizes, sizes_le}

-- x is num / den, negative or not, and no further from 0 than a whole number
pub record AtMost (bound : ℕ) (x : Float) : Type 0 where
  pub negative : Bool
  pub num : ℕ
  pub den : ℕ
  pub den_pos : 0 < den
  pub value : HasValue x negative num den
  pub small : num ≤ bound * den

-- no further than 2 ^ k
abbrev pub Sized : ℕ → Float → Type 0
Sized k x = AtMost (2 ^ k) x

-- between two numbers of one size
between : (s : Bool) (a b : ℕ) → Ordered true b s a → Ordered s a false b → a ≤ b
between false a b l h = h
between true a b l h = l

above : (s : Bool) (a b : ℕ) → a ≤ b → Ordered true b s a
above false a b h = tt
above true a b h = h

below : (s : Bool) (a b : ℕ) → a ≤ b → Ordered s a false b
below false a b h = h
below true a b h = tt

module _ (k : ℕ) where
  abbrev least : Float
  least = fin true 1 (pos k)

  abbrev most : Float
  most = fin false 1 (pos k)

  power : 1 * 2 ^ k * 1 ≡ 2 ^ k * 1
  power = ap (λ (n : ℕ). n * 1) (one-mul (2 ^ k))

  pub sized : (x : Float) → T (within_power k x) → Sized k x
  unfolding within_power le
  sized nan h = absurd h
  sized (inf true) h = absurd h
  sized (inf false) h = absurd h
  sized (fin s m e) h =
      let a = m * up e in
      record {
        negative = s;
        num = a;
        den = down e;
        den_pos = down_pos e;
        value = (refl, refl);
        small =
            le_trans (le_of_eq (sym (mul-one a)))
            (between s (a * 1) (2 ^ k * down e)
            (le_sizes least (fin s m e) true s (2 ^ k) 1 a (down e) (refl, power) (refl, refl) (and_l (le least (fin s m e)) (le (fin s m e) most) h))
            (le_sizes (fin s m e) most s false a (down e) (2 ^ k) 1 (refl, refl) (refl, power) (and_r (le least (fin s m e)) (le (fin s m e) most) h)));
      }

  pub sized-within : (x : Float) → Sized k x → T (within_power k x)
  unfolding within_power
  sized-within x z =
      let s = z.negative in
      let a = z.num in
      let c = z.den in
      let l : a * 1 ≤ 2 ^ k * c = le_trans (le_of_eq (mul-one a)) z.small in
      and_i (le least x) (le x most)
      (sizes_le least x true s (2 ^ k) 1 a c (zero-lt-suc 0) z.den_pos (refl, power) z.value (above s (a * 1) (2 ^ k * c) l))
      (sizes_le x most s false a c (2 ^ k) 1 z.den_pos (zero-lt-suc 0) z.value (refl, power) (below s (a * 1) (2 ^ k * c) l))

  pub within-finite : (x : Float) → T (within_power k x) → T (finite x)
  unfolding within_power le
  within-finite nan h = h
  within-finite (inf true) h = h
  within-finite (inf false) h = h
  within-finite (fin s m e) h = tt
