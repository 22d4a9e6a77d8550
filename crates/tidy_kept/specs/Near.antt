-- Values that count as the same. Definitions only.
use Rattle.std.specs.Prelude.{Bool, not, Float}
use Rattle.std.specs.Float.{binary64}
use Rattle.std.specs.Float.Ieee.{of_bits, lt, sub}
use Rattle.limits.specs.Numbers.{size_of}

-- 1e-6, the f64 next to it
abbrev pub millionth : Float
millionth = of_bits binary64 0x3EB0_C6F7_A0B5_ED8D

-- a difference below that, at f64. No value is near a NaN
unfoldable pub near_to : Float → Float → Bool
near_to a b = lt (size_of (sub binary64 a b)) millionth

-- the next value is not near
abbrev pub far_from : Float → Float → Bool
far_from value next = not (near_to next value)
