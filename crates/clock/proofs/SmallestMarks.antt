-- End marks of timings that are as small as they can be, each by computation: where the greatest row is not the last, where a warp's end lies too far, and a time of -0. Assumes nothing.
use mathlib.Core.List.{[], ◌∷◌}
use mathlib.Core.Bool.{true, false}
use mathlib.Core.Path.{◌≡◌, refl}
use lib.IntN.{pos}
use lib.Ieee.{Float, fin, add, sub, neg, mul, div, of_int, lt, le, eq, sum, to_bits}
use Rattle.ieee.specs.Constants.{plus_zero, sixty}
use Rattle.ieee.specs.Rounding.{rint, hold}
use Rattle.limits.specs.Numbers.{in_range, every}
use Rattle.limits.specs.Refusals.{lower, list_number}
use Rattle.chart.specs.Timing.{Timing, timing}
use Rattle.clock_walk.specs.Events.{sooner, offered, end_offered, ahead, goes_before}
use Rattle.clock_walk.specs.Passing.{last_up_to, tempo_at, early_tempo, in_force, time_to, time_at, after_warp_end, after_tempo, larger, after_warp, event_passed}
use Rattle.clock_walk.specs.Course.{pass_within, pass_while, state_after, events_within, course}
use Rattle.clock_walk.specs.Walk.{walk_on, walk}
use Rattle.clock_walk.specs.EndMark.{greater_row, greatest_row, end_mark}
use Rattle.clock_walk.specs.declared.Mark.{Mark}
use Rattle.clock_tests.specs.TimingNumbers.{rises, rises_from, starts_at_zero, timing_lists_number, offset_number, offsets_number, order_number, timing_number}
use Rattle.clock.specs.Question.{filled, fresh_state, fresh_cursor, beginning}
use Rattle.clock.specs.Marked.{mark_of, same_bits, same_row, same_places, same_warp, same_mark, marked_timing_number, from_mark, marked_walk}

-- ---- at offsets of 0

abbrev mark : Timing → Mark
mark t = mark_of t plus_zero plus_zero

abbrev with_warp : Float → Float → Timing
with_warp beat length = timing (plus_zero ∷ []) (sixty ∷ []) [] [] [] [] (beat ∷ []) (length ∷ [])

-- A warp from beat 4 back to beat 2: the events are on rows 0, 192 and 96. The greatest is 192, and the end state is on row 96, at 4 seconds.
abbrev falling : Timing
falling = with_warp (fin false 1 (pos 2)) (fin true 1 (pos 1))

pub greatest_not_last : (timing_number falling plus_zero plus_zero ≡ 0) × ((mark falling).row ≡ pos 192) × ((mark falling).state.row ≡ pos 96) × ((mark falling).state.time ≡ fin false 1 (pos 2))
unfolding neg add sub mul div of_int rint hold eq lt le sum in_range every lower list_number sooner offered end_offered ahead last_up_to tempo_at early_tempo in_force time_to time_at larger after_warp_end after_tempo after_warp event_passed state_after events_within course greater_row greatest_row end_mark rises rises_from starts_at_zero timing_lists_number offset_number offsets_number order_number timing_number filled fresh_state mark_of
greatest_not_last = (refl, refl, refl, refl)

-- a question on row 192 goes the old way and passes one event, and so does one between the two rows; beyond it none is passed
pub strictly_beyond :
    ((marked_walk (mark falling) falling (fresh_cursor plus_zero plus_zero) (pos 100) plus_zero plus_zero).passed ≡ 1)
    × ((marked_walk (mark falling) falling (fresh_cursor plus_zero plus_zero) (pos 192) plus_zero plus_zero).passed ≡ 1)
    × ((marked_walk (mark falling) falling (fresh_cursor plus_zero plus_zero) (pos 193) plus_zero plus_zero).passed ≡ 0)
unfolding neg add sub mul div of_int rint hold eq lt le sum sooner offered end_offered ahead goes_before last_up_to tempo_at early_tempo in_force time_to time_at larger after_warp_end after_tempo after_warp event_passed pass_within pass_while walk_on walk state_after events_within course greater_row greatest_row end_mark filled fresh_state fresh_cursor beginning mark_of marked_walk
strictly_beyond = (refl, refl, refl)

-- A warp of 44739244 beats would end on the greatest i32, where nothing is found: the mark is warping, on row 0, and beyond it time stands still.
abbrev endless : Timing
endless = with_warp plus_zero (fin false 11184811 (pos 2))

pub time_stands_still : (timing_number endless plus_zero plus_zero ≡ 0) × ((mark endless).row ≡ pos 0) × ((mark endless).state.warping ≡ true) × ((from_mark (mark endless) endless (pos 3145728)).time ≡ plus_zero)
unfolding neg add sub mul div of_int rint hold eq lt le sum in_range every lower list_number sooner offered end_offered ahead last_up_to tempo_at early_tempo in_force time_to time_at larger after_warp_end after_tempo after_warp event_passed state_after events_within course greater_row greatest_row end_mark rises rises_from starts_at_zero timing_lists_number offset_number offsets_number order_number timing_number filled fresh_state mark_of
time_stands_still = (refl, refl, refl, refl)

-- One of 44739240 beats ends on a row below that, beyond every row that is asked: its end belongs to the mark, which never serves.
abbrev distant : Timing
distant = with_warp plus_zero (fin false 5592405 (pos 3))

pub never_serves : (timing_number distant plus_zero plus_zero ≡ 0) × ((mark distant).row ≡ pos 2147483520) × ((mark distant).state.warping ≡ false)
unfolding neg add sub mul div of_int rint hold eq lt le sum in_range every lower list_number sooner offered end_offered ahead last_up_to tempo_at early_tempo in_force time_to time_at larger after_warp_end after_tempo after_warp event_passed state_after events_within course greater_row greatest_row end_mark rises rises_from starts_at_zero timing_lists_number offset_number offsets_number order_number timing_number filled fresh_state mark_of
never_serves = (refl, refl, refl)

-- At a tempo of -60 the mark's time is -0. A mark that differs from it in this sign alone is refused with 5.
abbrev backward : Timing
backward = timing (plus_zero ∷ []) (fin true 15 (pos 2) ∷ []) [] [] [] [] [] []

abbrev after : Float → Mark
after time = record { state = record { tempos = 1; stops = 0; delays = 0; warps = 0; row = pos 0; warping = false; time = time; end = plus_zero }; row = pos 0 }

pub signs_apart :
    (mark backward ≡ after (fin true 0 (pos 0)))
    × (marked_timing_number (after (fin true 0 (pos 0))) backward plus_zero plus_zero ≡ 0)
    × (marked_timing_number (after plus_zero) backward plus_zero plus_zero ≡ 5)
unfolding neg add sub mul div of_int rint hold eq lt le sum to_bits in_range every lower list_number sooner offered end_offered ahead last_up_to tempo_at early_tempo in_force time_to time_at larger after_warp_end after_tempo after_warp event_passed state_after events_within course greater_row greatest_row end_mark rises rises_from starts_at_zero timing_lists_number offset_number offsets_number order_number timing_number filled fresh_state mark_of same_bits same_row same_places same_warp same_mark marked_timing_number
signs_apart = (refl, refl, refl)
