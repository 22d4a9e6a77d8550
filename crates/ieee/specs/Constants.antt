-- Floats that rules name, at f64 and at f32, by the bits that a program's f32 has. Definitions only.
use Rattle.std.specs.Prelude.{false, pos, Float}
use Rattle.std.specs.Float.{fin, binary32}
use Rattle.std.specs.Float.Ieee.{of_bits}

-- +0
abbrev pub plus_zero : Float
plus_zero = fin false 0 (pos 0)

abbrev pub plus_zero32 : Float
plus_zero32 = of_bits binary32 0

-- 60: seconds to a minute, and the tempo of a chart that has none
abbrev pub sixty : Float
sixty = fin false 15 (pos 2)

abbrev pub sixty32 : Float
sixty32 = of_bits binary32 0x4270_0000
