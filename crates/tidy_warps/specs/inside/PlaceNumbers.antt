-- Places as numbers, which row tidying carries. Definitions only.
use Rattle.std.specs.Prelude.{ℕ, Float}
use Rattle.std.specs.Float.{binary64}
use Rattle.std.specs.Float.Ieee.{of_bits, to_bits}
use Rattle.order.specs.Packed.{lower_half}

-- a place as the number that has it as its pattern, and the place of a number: back where a list has it
abbrev pub place_number : ℕ → Float
place_number place = of_bits binary64 place

abbrev pub number_place : Float → ℕ
number_place number = lower_half (to_bits binary64 number)
