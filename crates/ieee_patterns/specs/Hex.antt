-- A number as upper-case hexadecimal digits. Definitions only.
use Rattle.std.specs.Prelude.{ℕ, zero, suc, ◌+◌, ◌-◌, ◌*◌, ◌^◌, ◌/◌, ◌%◌, List, [], ◌∷◌, ltb, leb, get_or}
use Rattle.picks.specs.Pick.{pick}

-- what a byte stands for: '0' to '9' and 'A' to 'F' are 0 to 15, and 16 says that it is no digit
unfoldable pub hex_value : ℕ → ℕ
hex_value byte =
    pick (ltb byte 48) 16
    (pick (leb byte 57) (byte - 48)
    (pick (ltb byte 65) 16
    (pick (leb byte 70) (byte - 55) 16)))

-- the digit of a number below 16, as a byte
unfoldable pub hex_digit : ℕ → ℕ
hex_digit value = pick (ltb value 10) (value + 48) (value + 55)

-- what a place's digit stands for; 0 where there is no digit
abbrev pub digit_at : List ℕ → ℕ → ℕ
digit_at text at = hex_value (get_or text at 0) % 16

-- so many digits from a place on, behind a number of which the last fifteen digits are kept
unfoldable pub digits_from : ℕ → List ℕ → ℕ → ℕ → ℕ
digits_from zero text at number = number
digits_from (suc left) text at number = digits_from left text (suc at) (number % 0x1000000000000000 * 16 + digit_at text at)

-- the number of the sixteen digits from a place on
abbrev pub word_at : List ℕ → ℕ → ℕ
word_at text at = digits_from 16 text at 0

-- the last k digits of a number, the highest first
unfoldable pub hex_text : ℕ → ℕ → List ℕ
hex_text zero number = []
hex_text (suc k) number = hex_digit (number / 16 ^ k % 16) ∷ hex_text k number
