-- What IEEE 754-2019 asks of fusedMultiplyAdd, clause by clause, of any function of three floats. Definitions only.
--
-- Between numbers it is the exact x * y + z, rounded once, to the nearest value of the format, a tie to the even one, and to an infinity where that overflows (5.4.1, 4.3.1).
-- An exact zero has the sign that both summands have, and is +0 where their signs differ (6.3). A NaN in is a NaN out (6.2). 0 times an infinity is a NaN, whatever is added (7.2);
-- any other product with an infinity is an infinity, added as a sum adds one, so that an infinity less an infinity is a NaN (6.1, 7.2); and a number plus an infinity is that infinity, however large the product.
-- `mul_add` is such a function, and there is no other: proofs/AsIeeeSays.antt.
use Rattle.std.specs.Prelude.{◌≡◌, ℕ, ◌<◌, Bool, ◌&&◌, T, ℤ, pos, Float}
use Rattle.std.specs.Float.{nan, inf, fin, Format}
use Rattle.std.specs.Float.Ieee.{unlike, add}
use Rattle.std.specs.Float.Ieee.Scale.{finite}
use Rattle.ieee.specs.Rounding.{signed}
use Rattle.ieee.specs.Nearest.{sign_of, TiesToEven}
use Rattle.ieee_mul_add.specs.MulAdd.{exactly}

pub record FusedMultiplyAdd (f : Format) (of : Float → Float → Float → Float) : Type 0 where
  -- the exact sum is n over its bottom, with the sign s
  pub ties_to_even : (x y z : Float) → T (finite x) → T (finite y) → T (finite z) → (s : Bool) (n : ℕ) → 0 < n → (exactly x y z).top ≡ signed s n → TiesToEven f s n (exactly x y z).bottom (of x y z)
  pub exact_zero : (x y z : Float) → T (finite x) → T (finite y) → T (finite z) → (exactly x y z).top ≡ pos 0 → of x y z ≡ fin (unlike (sign_of x) (sign_of y) && sign_of z) 0 (pos 0)
  pub nan_first : (y z : Float) → of nan y z ≡ nan
  pub nan_second : (x z : Float) → of x nan z ≡ nan
  pub nan_added : (x y : Float) → of x y nan ≡ nan
  pub zero_times_infinity : (s t : Bool) (e : ℤ) (z : Float) → of (fin s 0 e) (inf t) z ≡ nan
  pub infinity_times_zero : (s t : Bool) (e : ℤ) (z : Float) → of (inf s) (fin t 0 e) z ≡ nan
  pub number_times_infinity : (s t : Bool) (n : ℕ) (e : ℤ) (z : Float) → 0 < n → of (fin s n e) (inf t) z ≡ add f (inf (unlike s t)) z
  pub infinity_times_number : (s t : Bool) (n : ℕ) (e : ℤ) (z : Float) → 0 < n → of (inf s) (fin t n e) z ≡ add f (inf (unlike s t)) z
  pub infinity_times_infinity : (s t : Bool) (z : Float) → of (inf s) (inf t) z ≡ add f (inf (unlike s t)) z
  pub infinity_added : (x y : Float) (u : Bool) → T (finite x) → T (finite y) → of x y (inf u) ≡ inf u
