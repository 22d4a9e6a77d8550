-- Marks as numbers, which row tidying carries. Definitions only.
use Rattle.std.specs.Prelude.{ℕ, false, pos, negsuc, Float}
use Rattle.std.specs.Float.{fin, binary64}
use Rattle.std.specs.Float.Ieee.{lt, of_int}
use Rattle.picks.specs.Pick.{pick}

-- a mark as a number, and the mark of a number: back where it was 0 or 1
abbrev pub mark_number : ℕ → Float
mark_number mark = of_int binary64 (pos mark)

unfoldable pub number_mark : Float → ℕ
number_mark x = pick (lt (fin false 1 (negsuc 0)) x) 1 0
