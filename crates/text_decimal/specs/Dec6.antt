-- The text of a float with six decimals, as the original writes an f32 with `{:.6}`. Bytes are ASCII: 45 is the minus sign, 46 the point, 48 to 57 are the digits. Definitions only.
-- `Reading.antt` says what such a text is and what it says, with no word of how it is written.
use Rattle.std.specs.Prelude.{ℕ, zero, suc, ◌+◌, ◌*◌, ◌/◌, ◌%◌, Bool, true, false, List, [], ◌∷◌, ◌++◌, ℤ, Float}
use Rattle.std.specs.Float.{nan, inf, fin}
use Rattle.std.specs.Float.Ieee.{up, down}
use Rattle.std.specs.Float.Ieee.Nearest.{closest}
use Rattle.text_page.specs.Digits.{decimal_digits}

-- the lowest k digits of a number, zeros in front among them
unfoldable pub lowest_digits : ℕ → ℕ → List ℕ
lowest_digits zero n = []
lowest_digits (suc k) n = lowest_digits k (n / 10) ++ ((48 + n % 10) ∷ [])

-- the whole part: an f32 is below 2 ^ 128, which has 39 digits
abbrev pub whole_text : ℕ → List ℕ
whole_text n = decimal_digits 39 n

abbrev pub minus_sign : Bool → List ℕ
minus_sign false = []
minus_sign true = 45 ∷ []

-- n millionths: the whole part, a point, six decimals
unfoldable pub millionths_text : ℕ → List ℕ
millionths_text n = whole_text (n / 1000000) ++ ((46 ∷ []) ++ lowest_digits 6 n)

-- `fin s m e` is the fraction m * up e / down e, negative where s is true.
-- This is how many millionths it is, to the nearest whole number of them, a tie to the even one: so `closest` rounds a fraction.
abbrev pub millionths : ℕ → ℤ → ℕ
millionths m e = closest (m * up e * 1000000) (down e)

-- THE TEXT. The sign is the float's own: a zero, or what is rounded to 0, keeps its minus sign. What is not finite is written NaN, inf, -inf.
unfoldable pub dec6 : Float → List ℕ
dec6 nan = 78 ∷ 97 ∷ 78 ∷ []
dec6 (inf s) = minus_sign s ++ (105 ∷ 110 ∷ 102 ∷ [])
dec6 (fin s m e) = minus_sign s ++ millionths_text (millionths m e)
