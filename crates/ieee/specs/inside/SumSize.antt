-- How large a sum is, by the sizes of what is added. Definitions only.
use Rattle.std.specs.Prelude.{ℕ, ◌+◌, Bool, true, false}
use Rattle.ieee.specs.Nearest.{gap}

-- |±a + ±b|: the sum where the two signs are alike, and else how far the sizes are apart
abbrev pub sum_size : Bool → ℕ → ℕ → ℕ
sum_size true a b = a + b
sum_size false a b = gap a b
