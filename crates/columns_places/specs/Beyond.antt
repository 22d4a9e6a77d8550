-- What stands for an entry beyond the end of a column that is read by places. Definitions only.
use Rattle.std.specs.Prelude.{ℕ, Float}
use Rattle.std.specs.Float.{nan}

-- Of numbers a NaN.
abbrev pub beyond_numbers : Float
beyond_numbers = nan

-- Of places 0, and of units, marks and fates.
abbrev pub beyond_places : ℕ
beyond_places = 0
