-- The row of the next entry of a list and of a warp's end, and whether nothing but tempos is due by a row. Definitions only.
use Rattle.std.specs.Prelude.{ℕ, ◌+◌, Bool, false, List, length, ℤ, pos, ◌+ℤ◌, ◌==◌, int_lt, nat_lt, slice_index_or, Float}
use Rattle.std.specs.Float.{fin, nan, binary64}
use Rattle.std.specs.Float.Ieee.{le}
use Rattle.picks.specs.Pick.{pick}
use Rattle.rows.specs.Rows.{row, beat_of}
use Rattle.clock_walk.specs.Events.{farthest}
use Rattle.chart.specs.declared.State.{State}

unfoldable pub row_at : List Float → ℕ → ℤ
row_at beats place = pick (nat_lt place (length beats)) (row binary64 (slice_index_or beats place nan)) farthest

unfoldable pub end_row : Bool → Float → ℤ
end_row warping end = pick warping (row binary64 end) farthest

-- the entry at a place is not before a beat and not above the limit, or the list ends there
unfoldable pub not_before : List Float → ℕ → Float → Bool
not_before beats place beat =
    pick (nat_lt place (length beats))
    (pick (le (slice_index_or beats place nan) (fin false 1 (pos 16))) (le beat (slice_index_or beats place nan)) false)
    (place == length beats)

-- of an allowed row from 0 on: the entry at a place is not before the beat of the row after it, or the list ends there
unfoldable pub is_later : List Float → ℕ → ℤ → Bool
is_later beats place asked =
    pick (int_lt asked (pos 0)) false (pick (int_lt (pos 3145727) asked) false (not_before beats place (beat_of binary64 (asked +ℤ pos 1))))

-- an entry is at a place, and the one after it is later
unfoldable pub is_next_later : List Float → ℕ → ℤ → Bool
is_next_later beats place asked = pick (nat_lt place (length beats)) (is_later beats (place + 1) asked) false

-- An allowed row from 0 on, by which nothing but tempos is due: it is before the warp's end, and the next entry of each other list, if the list does not end
-- there, is not before the beat of the row after it.
unfoldable pub only_tempos : (stop_beats delay_beats warp_beats : List Float) → State → ℤ → Bool
only_tempos stop_beats delay_beats warp_beats s asked =
    pick (int_lt asked (pos 0)) false
    (pick (int_lt (pos 3145727) asked) false
    (pick (int_lt asked (end_row s.warping s.end))
    (pick (not_before stop_beats s.stops (beat_of binary64 (asked +ℤ pos 1)))
    (pick (not_before delay_beats s.delays (beat_of binary64 (asked +ℤ pos 1))) (not_before warp_beats s.warps (beat_of binary64 (asked +ℤ pos 1))) false)
    false)
    false))
