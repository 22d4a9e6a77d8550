-- What a text of six decimals is, and the number that it says, with no word of how it is written. Definitions only.
use Rattle.std.specs.Prelude.{ℕ, ◌+◌, ◌-◌, ◌*◌, ◌≤◌, ◌<◌, Bool, ◌≡◌, ◌≢◌, List, [], ◌∷◌, ◌++◌, ℤ, length, get_or}
use Rattle.std.specs.Float.Ieee.{up, down}
use Rattle.ieee.specs.Nearest.{NearestWhole}
use Rattle.text_decimal.specs.Dec6.{minus_sign}

-- every byte is a digit
unfoldable pub AllDigits : List ℕ → Type 0
AllDigits [] = Unit
AllDigits (byte ∷ bytes) = (48 ≤ byte) × (byte ≤ 57) × AllDigits bytes

-- the number that digits stand for, behind a number that was read before them
unfoldable pub read_digits : ℕ → List ℕ → ℕ
read_digits n [] = n
read_digits n (byte ∷ bytes) = read_digits (n * 10 + (byte - 48)) bytes

-- The text is the sign, a whole part, a point and six decimals, and says n millionths. The whole part has a digit, and no zero in front of another.
pub record SixDecimals (text : List ℕ) (s : Bool) (n : ℕ) : Type 0 where
  pub whole : List ℕ
  pub decimals : List ℕ
  pub shape : text ≡ minus_sign s ++ (whole ++ ((46 ∷ []) ++ decimals))
  pub whole_digits : AllDigits whole
  pub six_digits : AllDigits decimals
  pub some : 0 < length whole
  pub six : length decimals ≡ 6
  pub no_zero : 1 < length whole → get_or whole 0 0 ≢ 48
  pub reads : read_digits 0 (whole ++ decimals) ≡ n

-- The text of six decimals that is nearest to the float `fin s m e`: it has the float's sign, and the number that it says is within half a millionth
-- of the float's exact value, m * up e / down e, and even where it is just half a millionth away.
pub record NearestText (s : Bool) (m : ℕ) (e : ℤ) (text : List ℕ) : Type 0 where
  pub number : ℕ
  pub form : SixDecimals text s number
  pub nearest : NearestWhole (m * up e * 1000000) (down e) number
