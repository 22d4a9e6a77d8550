-- A number in decimal digits, as ASCII: 48 is the digit 0, 57 is 9. Definitions only.
use Rattle.std.specs.Prelude.{ℕ, zero, suc, ◌+◌, ◌/◌, ◌%◌, List, [], ◌∷◌, ◌++◌, ltb}
use Rattle.picks.specs.Pick.{pick}

-- the decimal digits of a number, k at most: no zero in front, and one digit for 0
unfoldable pub decimal_digits : ℕ → ℕ → List ℕ
decimal_digits zero n = []
decimal_digits (suc k) n = pick (ltb n 10) ((48 + n) ∷ []) (decimal_digits k (n / 10) ++ ((48 + n % 10) ∷ []))

-- a number of 64 bits has 20 at most
abbrev pub decimal_text : ℕ → List ℕ
decimal_text n = decimal_digits 20 n
