-- Texts that the original was seen to write, as theorems on the definition. Assumes nothing.
use Prim.Native.Nat.{ℕ}
use mathlib.Core.Path.{◌≡◌, refl}
use mathlib.Core.List.{List, [], ◌∷◌}
use lib.Ieee.{of_bits, binary32}
use Rattle.text_page.specs.Digits.{decimal_digits}
use Rattle.text_decimal.specs.Dec6.{lowest_digits, millionths_text, dec6}

-- the text of a pattern
abbrev text_of : ℕ → List ℕ
text_of bits = dec6 (of_bits binary32 bits)

-- 1/128, half a millionth above 0.007812
pub half_down_to_even : text_of 0x3C000000 ≡ 48 ∷ 46 ∷ 48 ∷ 48 ∷ 55 ∷ 56 ∷ 49 ∷ 50 ∷ []
unfolding dec6 of_bits lowest_digits decimal_digits millionths_text
half_down_to_even = refl

-- 3/128, half a millionth below 0.023438
pub half_up_to_even : text_of 0x3CC00000 ≡ 48 ∷ 46 ∷ 48 ∷ 50 ∷ 51 ∷ 52 ∷ 51 ∷ 56 ∷ []
unfolding dec6 of_bits lowest_digits decimal_digits millionths_text
half_up_to_even = refl

-- 131071.9921875, 131071.992188
pub largest-half : text_of 0x47FFFFFF ≡ 49 ∷ 51 ∷ 49 ∷ 48 ∷ 55 ∷ 49 ∷ 46 ∷ 57 ∷ 57 ∷ 50 ∷ 49 ∷ 56 ∷ 56 ∷ []
unfolding dec6 of_bits lowest_digits decimal_digits millionths_text
largest-half = refl

-- -0, -0.000000
pub sign_of_zero : text_of 0x80000000 ≡ 45 ∷ 48 ∷ 46 ∷ 48 ∷ 48 ∷ 48 ∷ 48 ∷ 48 ∷ 48 ∷ []
unfolding dec6 of_bits lowest_digits decimal_digits millionths_text
sign_of_zero = refl

-- -1e-9, -0.000000
pub sign_of_what_is_rounded_to_zero : text_of 0xB089705F ≡ 45 ∷ 48 ∷ 46 ∷ 48 ∷ 48 ∷ 48 ∷ 48 ∷ 48 ∷ 48 ∷ []
unfolding dec6 of_bits lowest_digits decimal_digits millionths_text
sign_of_what_is_rounded_to_zero = refl

-- the f32 below 5e-7, 0.000000
pub below_half_a_millionth : text_of 0x350637BD ≡ 48 ∷ 46 ∷ 48 ∷ 48 ∷ 48 ∷ 48 ∷ 48 ∷ 48 ∷ []
unfolding dec6 of_bits lowest_digits decimal_digits millionths_text
below_half_a_millionth = refl

-- the f32 above 5e-7, 0.000001
pub above_half_a_millionth : text_of 0x350637BE ≡ 48 ∷ 46 ∷ 48 ∷ 48 ∷ 48 ∷ 48 ∷ 48 ∷ 49 ∷ []
unfolding dec6 of_bits lowest_digits decimal_digits millionths_text
above_half_a_millionth = refl

-- 2 ^ -20, 0.000001
pub least-tempo : text_of 0x35800000 ≡ 48 ∷ 46 ∷ 48 ∷ 48 ∷ 48 ∷ 48 ∷ 48 ∷ 49 ∷ []
unfolding dec6 of_bits lowest_digits decimal_digits millionths_text
least-tempo = refl

-- the smallest f32, 0.000000
pub smallest : text_of 0x00000001 ≡ 48 ∷ 46 ∷ 48 ∷ 48 ∷ 48 ∷ 48 ∷ 48 ∷ 48 ∷ []
unfolding dec6 of_bits lowest_digits decimal_digits millionths_text
smallest = refl

-- 1 - 2 ^ -24, 1.000000
pub carried : text_of 0x3F7FFFFF ≡ 49 ∷ 46 ∷ 48 ∷ 48 ∷ 48 ∷ 48 ∷ 48 ∷ 48 ∷ []
unfolding dec6 of_bits lowest_digits decimal_digits millionths_text
carried = refl

-- 2 ^ 30, 1073741824.000000
pub largest-tempo : text_of 0x4E800000 ≡ 49 ∷ 48 ∷ 55 ∷ 51 ∷ 55 ∷ 52 ∷ 49 ∷ 56 ∷ 50 ∷ 52 ∷ 46 ∷ 48 ∷ 48 ∷ 48 ∷ 48 ∷ 48 ∷ 48 ∷ []
unfolding dec6 of_bits lowest_digits decimal_digits millionths_text
largest-tempo = refl

-- 2 ^ 64, 18446744073709551616.000000
pub past_a_word : text_of 0x5F800000 ≡ 49 ∷ 56 ∷ 52 ∷ 52 ∷ 54 ∷ 55 ∷ 52 ∷ 52 ∷ 48 ∷ 55 ∷ 51 ∷ 55 ∷ 48 ∷ 57 ∷ 53 ∷ 53 ∷ 49 ∷ 54 ∷ 49 ∷ 54 ∷ 46 ∷ 48 ∷ 48 ∷ 48 ∷ 48 ∷ 48 ∷ 48 ∷ []
unfolding dec6 of_bits lowest_digits decimal_digits millionths_text
past_a_word = refl

-- the largest f32, 340282346638528859811704183484516925440.000000
pub largest : text_of 0x7F7FFFFF ≡ 51 ∷ 52 ∷ 48 ∷ 50 ∷ 56 ∷ 50 ∷ 51 ∷ 52 ∷ 54 ∷ 54 ∷ 51 ∷ 56 ∷ 53 ∷ 50 ∷ 56 ∷ 56 ∷ 53 ∷ 57 ∷ 56 ∷ 49 ∷ 49 ∷ 55 ∷ 48 ∷ 52 ∷ 49 ∷ 56 ∷ 51 ∷ 52 ∷ 56 ∷ 52 ∷ 53 ∷ 49 ∷ 54 ∷ 57 ∷ 50 ∷ 53 ∷ 52 ∷ 52 ∷ 48 ∷ 46 ∷ 48 ∷ 48 ∷ 48 ∷ 48 ∷ 48 ∷ 48 ∷ []
unfolding dec6 of_bits lowest_digits decimal_digits millionths_text
largest = refl

-- NaN
pub a-nan : text_of 0x7FC00000 ≡ 78 ∷ 97 ∷ 78 ∷ []
unfolding dec6 of_bits lowest_digits decimal_digits millionths_text
a-nan = refl

-- inf
pub an_infinity : text_of 0x7F800000 ≡ 105 ∷ 110 ∷ 102 ∷ []
unfolding dec6 of_bits lowest_digits decimal_digits millionths_text
an_infinity = refl

-- -inf
pub a_negative_infinity : text_of 0xFF800000 ≡ 45 ∷ 105 ∷ 110 ∷ 102 ∷ []
unfolding dec6 of_bits lowest_digits decimal_digits millionths_text
a_negative_infinity = refl
