-- The ends of an i32 as floats. Definitions only.
use Rattle.std.specs.Prelude.{true, false, pos, T, Float}
use Rattle.std.specs.Float.{fin}
use Rattle.std.specs.Float.Ieee.{le}

abbrev pub least_float : Float
least_float = fin true 1 (pos 31)

abbrev pub most_float : Float
most_float = fin false 2147483647 (pos 0)

-- a float between them
abbrev pub InI32 : Float → Type 0
InI32 x = T (le least_float x) × T (le x most_float)
