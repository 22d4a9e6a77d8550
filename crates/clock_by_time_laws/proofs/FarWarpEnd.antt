-- A warp's end may lie far beyond the limit of rows: it is an event all the same, and the beats go on from it. Assumes nothing.
use mathlib.Core.List.{[], ◌∷◌}
use mathlib.Core.Path.{◌≡◌, refl}
use lib.IntN.{pos}
use lib.Ieee.{fin, add, sub, neg, mul, div, of_int, lt, le, sum}
use mathlib.Core.Bool.{true, false}
use Rattle.ieee.specs.Constants.{plus_zero, sixty}
use Rattle.ieee.specs.Rounding.{rint, hold}
use Rattle.chart.specs.Timing.{Timing, timing}
use Rattle.clock_walk.specs.Events.{sooner, offered, end_offered, ahead}
use Rattle.clock_walk.specs.Passing.{last_up_to, tempo_at, early_tempo, in_force, time_to, time_at, after_warp_end, after_tempo, after_delay, after_stop, larger, after_warp, event_passed}
use Rattle.clock_walk.specs.Course.{pass_within, pass_while}
use Rattle.clock_walk.specs.ByTime.{has_come, still_runs, over_by, passed_by, walk_by}
use Rattle.clock.specs.Question.{filled, fresh_state}
use Rattle.clock_by_time.specs.BeatAt.{fresh_by}

-- a tempo of 60, and a warp from beat -2 on over 44,739,244 beats: both are within their limits, and the end is on row 2,147,483,616, below the greatest i32
abbrev pub far_warp : Timing
far_warp = timing (plus_zero ∷ []) (sixty ∷ []) [] [] [] [] (fin true 1 (pos 1) ∷ []) (fin false 11184811 (pos 2) ∷ [])

pub far_end_passed : (fresh_by far_warp plus_zero plus_zero plus_zero).passed ≡ 3
unfolding fresh_by walk_by passed_by filled fresh_state pass_while pass_within has_come still_runs over_by time_at early_tempo tempo_at last_up_to in_force time_to event_passed after_warp_end after_tempo after_delay after_stop after_warp larger ahead sooner offered end_offered rint hold add sub neg mul div of_int lt le sum
far_end_passed = refl

pub far_end_row : (fresh_by far_warp plus_zero plus_zero plus_zero).state.row ≡ pos 2147483616
unfolding fresh_by walk_by passed_by filled fresh_state pass_while pass_within has_come still_runs over_by time_at early_tempo tempo_at last_up_to in_force time_to event_passed after_warp_end after_tempo after_delay after_stop after_warp larger ahead sooner offered end_offered rint hold add sub neg mul div of_int lt le sum
far_end_row = refl
