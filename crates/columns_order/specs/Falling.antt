-- A test of two neighbours, beside `not_falling`. Definitions only.
use Rattle.std.specs.Prelude.{Bool, Float}
use Rattle.std.specs.Float.Ieee.{lt}

-- the next is below
abbrev pub falling : Float → Float → Bool
falling x next = lt next x
