-- What IEEE 754 means by nearest, a tie to the even one (4.3.1, roundTiesToEven): among the whole numbers, and among the values of a format. Definitions only.
use Rattle.std.specs.Prelude.{ℕ, suc, ◌+◌, ◌-◌, ◌*◌, ◌%◌, ◌^◌, ◌≤◌, Bool, false, ◌≡◌, ℤ, pos, nat_abs, ◌-ℤ◌, ◌*ℤ◌, T, Float}
use Rattle.std.specs.Float.{nan, inf, fin, Format}
use Rattle.std.specs.Float.Ieee.{prec, emax, up, down, ne, fits, to_bits}
use Rattle.std.specs.Float.Ieee.Scale.{finite}
use Rattle.ieee.specs.Rounding.{signed}

-- ---- among the whole numbers

-- |a - b|
abbrev pub gap : ℕ → ℕ → ℕ
gap a b = (a - b) + (b - a)

-- n is the whole number nearest to num / den: |n - num / den| is at most a half, and where it is a half n is even
pub record NearestWhole (num den n : ℕ) : Type 0 where
  pub near : gap (n * den) num * 2 ≤ den
  pub tie : gap (n * den) num * 2 ≡ den → n % 2 ≡ 0

-- ---- among the values of a format

-- A number as a fraction. Each that is met below has a bottom above 0.
pub record Fraction : Type 0 where
  pub top : ℤ
  pub bottom : ℕ

-- num / den with a sign
abbrev pub ratio : Bool → ℕ → ℕ → Fraction
ratio s num den = record { top = signed s num; bottom = den }

-- the number that a finite float is; what is not finite has none, and 0 stands in its place
abbrev pub value_of : Float → Fraction
value_of nan = record { top = pos 0; bottom = 1 }
value_of (inf s) = record { top = pos 0; bottom = 1 }
value_of (fin s m e) = ratio s (m * up e) (down e)

-- |x - y| is this number over the product of the two bottoms
abbrev pub distance : Fraction → Fraction → ℕ
distance x y = nat_abs (x.top *ℤ pos y.bottom -ℤ y.top *ℤ pos x.bottom)

-- |x - y| ≤ |x - z|, and |x - y| = |x - z|, multiplied out. (x's bottom stands on both sides, and is left out.)
abbrev pub NoFarther : Fraction → Fraction → Fraction → Type 0
NoFarther x y z = distance x y * z.bottom ≤ distance x z * y.bottom

abbrev pub AsFar : Fraction → Fraction → Fraction → Type 0
AsFar x y z = distance x y * z.bottom ≡ distance x z * y.bottom

-- y is a number, and the format f holds it
abbrev pub IsValue : Format → Float → Type 0
IsValue f y = T (finite y) × T (fits f y)

-- y is the value of f nearest to x: none is nearer, and where another is as near y's last digit, which is the last bit of its pattern, is 0
pub record NearestValue (f : Format) (x : Fraction) (y : Float) : Type 0 where
  pub value : IsValue f y
  pub near : (z : Float) → IsValue f z → NoFarther x (value_of y) (value_of z)
  pub tie : (z : Float) → IsValue f z → T (ne z y) → AsFar x (value_of y) (value_of z) → to_bits f y % 2 ≡ 0

-- num / den is at least 2 ^ emax * (2 - 2 ^ -prec), which is half way from the largest value of f to 2 ^ (emax + 1)
abbrev pub Overflows : Format → ℕ → ℕ → Type 0
Overflows f num den = 2 ^ emax f * (2 ^ suc (prec f) - 1) * den ≤ num * 2 ^ prec f

-- whether the sign is minus, of a zero too; that of a NaN is never asked
abbrev pub sign_of : Float → Bool
sign_of nan = false
sign_of (inf s) = s
sign_of (fin s m e) = s

-- y is what IEEE 754 delivers at the format f for num / den with the sign s: the nearest value, or the infinity where that overflows, and with that sign even where it is 0
pub record TiesToEven (f : Format) (s : Bool) (num den : ℕ) (y : Float) : Type 0 where
  pub nearest : ¬ Overflows f num den → NearestValue f (ratio s num den) y
  pub infinite : Overflows f num den → y ≡ inf s
  pub sign : sign_of y ≡ s
