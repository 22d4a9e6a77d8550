-- Where a warp came from. Definitions only.
use Rattle.std.specs.Prelude.{ℕ, Bool, List, leb, eqb, length, Float}
use Rattle.picks.specs.Pick.{pick}
use Rattle.limits.specs.Table.{uneven, bad_value}
use Rattle.limits.specs.Numbers.{every}
use Rattle.limits.specs.Refusals.{long_then}
use Rattle.order.specs.Entries.{entries}

-- a mark: 0 for a warp that was written, 1 for one that was made
abbrev pub written_mark : ℕ
written_mark = 0

abbrev pub made_mark : ℕ
made_mark = 1

abbrev pub is_mark : ℕ → Bool
is_mark mark = leb mark 1

-- a warp with its mark: a beat, and a length with the mark
abbrev pub Warp : Type 0
Warp = Float × (Float × ℕ)

abbrev pub length_of : Warp → Float
length_of warp = warp.1.0

abbrev pub warp_mark : Warp → ℕ
warp_mark warp = warp.1.1

abbrev pub without_mark : Warp → Float × Float
without_mark warp = (warp.0, length_of warp)

-- three columns as one list
abbrev pub warps_in : List Float → List Float → List ℕ → List Warp
warps_in beats lengths marks = entries beats (entries lengths marks)

-- the tests of a column of marks, beside a list that has so many beats: too long, another length, and 4 for a mark that is none
unfoldable pub marks_number : ℕ → List ℕ → ℕ
marks_number beats marks = long_then (length marks) (pick (eqb beats (length marks)) (pick (every is_mark marks) 0 bad_value) uneven)
