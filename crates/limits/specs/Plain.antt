-- Numbers that are in a range by their size alone: neither a 0 below the least nor a number that is not finite. Definitions only.
use Rattle.std.specs.Prelude.{Bool, false, Float}
use Rattle.std.specs.Float.Ieee.{neg, lt, le}
use Rattle.picks.specs.Pick.{pick}
use Rattle.limits.specs.declared.Range.{Range}

-- strictly between the two numbers of a size, and from one to the other
unfoldable pub inside : Float → Float → Bool
inside size x = pick (lt (neg size) x) (lt x size) false

unfoldable pub within : Float → Float → Bool
within size x = pick (le (neg size) x) (le x size) false

unfoldable pub plain : Range → Float → Bool
plain range x = pick (inside range.least x) false (within range.most x)
