-- Rows and beats, 48 rows to a beat. Definitions only.
use Rattle.std.specs.Prelude.{Bool, ℤ, pos, Float}
use Rattle.std.specs.Float.{Format, binary32}
use Rattle.std.specs.Float.Ieee.{mul, div, of_int, eq}
use Rattle.ieee.specs.Rounding.{rint, hold}
use Rattle.ieee.specs.Narrowing.{narrow}
use Rattle.limits.specs.declared.Kind.TheVariants.{Beat}
use Rattle.limits.specs.Numbers.{range_of, in_range}

-- the row of a beat: 48 times the beat, rounded, at the width f
abbrev pub row : Format → Float → ℤ
row f beat = hold (rint (mul f beat (of_int f (pos 48))))

-- the beat of a row: a 48th of it, at the width f
abbrev pub beat_of : Format → ℤ → Float
beat_of f r = div f (of_int f r) (of_int f (pos 48))

-- a beat moved to the nearest row: an f32 through its row and back, and an f64 by way of f32
abbrev pub quantized32 : Float → Float
quantized32 beat = beat_of binary32 (row binary32 beat)

abbrev pub quantized : Float → Float
quantized beat = quantized32 (narrow beat)

-- a beat is on the grid where its f32 is, by value, the f32 beat of its row: -0 is on it
unfoldable pub on_grid32 : Float → Bool
on_grid32 beat = eq beat (quantized32 beat)

unfoldable pub on_grid : Float → Bool
on_grid beat = on_grid32 (narrow beat)

-- a beat that the limits allow
abbrev pub allowed_beat : Float → Bool
allowed_beat beat = in_range (range_of Beat) beat
