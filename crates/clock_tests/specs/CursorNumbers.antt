-- What the clock refuses of a lent cursor. Definitions only.
use Rattle.std.specs.Prelude.{ℕ, Bool, true, false, ℤ, pos, negsuc, int_le, nat_le, Float}
use Rattle.std.specs.Float.{fin}
use Rattle.std.specs.Float.Ieee.{le}
use Rattle.std.specs.Float.Ieee.Scale.{finite}
use Rattle.limits.specs.Table.{bad_cursor}
use Rattle.ieee.specs.Constants.{plus_zero}
use Rattle.picks.specs.Pick.{pick}
use Rattle.limits.specs.Numbers.{row_in}
use Rattle.chart.specs.declared.State.{State}

-- the last asked row of a cursor that was not asked yet: the lowest i32, which no other is below
abbrev pub fresh_mark : ℤ
fresh_mark = negsuc 2147483647

-- each place is at most the length of its list
unfoldable pub places_in : (tempos stops delays warps : ℕ) → State → Bool
places_in tempos stops delays warps s =
    pick (nat_le s.tempos tempos) (pick (nat_le s.stops stops) (pick (nat_le s.delays delays) (nat_le s.warps warps) false) false) false

-- rows are within the limit, and the asked one may be the fresh mark
unfoldable pub rows_in : ℤ → ℤ → Bool
rows_in last asked = pick (row_in last) (pick (row_in asked) true (int_le asked fresh_mark)) false

-- the warp's end lies from 0 to 2 ^ 31, -0 included
unfoldable pub end_in : Float → Bool
end_in end = pick (le plus_zero end) (le end (fin false 1 (pos 31))) false

-- the time is finite, and the warp's end there
unfoldable pub time_and_end_in : Float → Float → Bool
time_and_end_in time end = pick (finite time) (end_in end) false

-- 9 for a cursor that no question left behind
unfoldable pub cursor_number : (tempos stops delays warps : ℕ) → State → ℤ → ℕ
cursor_number tempos stops delays warps s asked =
    pick (places_in tempos stops delays warps s) (pick (rows_in s.row asked) (pick (finite s.time) (pick (end_in s.end) 0 bad_cursor) bad_cursor) bad_cursor) bad_cursor
