-- The greatest f32 that is not above an f64. Definitions only.
use Rattle.std.specs.Prelude.{◌+◌, ◌-◌, from_bits, nat_le, to_bits, Float}
use Rattle.std.specs.Float.{binary32}
use Rattle.std.specs.Float.Ieee.{top, lt}
use Rattle.picks.specs.Pick.{pick}
use Rattle.ieee.specs.Narrowing.{narrow}

-- the f32 below one: its pattern is one less, and one more where the sign is set
unfoldable pub next_below : Float → Float
next_below x = from_bits binary32 (pick (nat_le (top binary32) (to_bits binary32 x)) (to_bits binary32 x + 1) (to_bits binary32 x - 1))

-- the nearest f32, or the one below it where that is above; a NaN for a NaN
unfoldable pub f32_up_to : Float → Float
f32_up_to at = pick (lt at (narrow at)) (next_below (narrow at)) (narrow at)
