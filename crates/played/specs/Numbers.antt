-- Numbers as the table writes them. Definitions only.
use Rattle.std.specs.Prelude.{ℕ, ◌^◌, false, ℤ, pos, neg_ℤ, Float}
use Rattle.std.specs.Float.{binary64}
use Rattle.std.specs.Float.Ieee.{round}

-- n / 10 ^ places: `decimal 3125 5` is 0.03125. Exact, and so the same number at both widths, for each that the table has
unfoldable pub decimal_float : ℕ → ℕ → Float
unfolding round
decimal_float n places = round binary64 false n (10 ^ places)

-- n, as a float
abbrev pub whole_float : ℕ → Float
whole_float n = decimal_float n 0

-- -n
abbrev pub minus : ℕ → ℤ
minus n = neg_ℤ (pos n)
