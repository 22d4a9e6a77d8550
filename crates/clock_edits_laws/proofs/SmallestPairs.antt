-- The smallest pairs hold, each by computation. A definition that one computes with stands on the `unfolding` line. Assumes nothing.
use mathlib.Core.Path.{refl}
use lib.Ieee.{add, sub, neg, mul, div, of_int, lt, le, eq, sum}
use Rattle.ieee.specs.Rounding.{rint, hold}
use Rattle.limits.specs.Numbers.{in_range, every, row_in}
use Rattle.limits.specs.Refusals.{lower, list_number}
use Rattle.clock_walk.specs.Events.{sooner, offered, end_offered, ahead, goes_before}
use Rattle.clock_walk.specs.Passing.{last_up_to, tempo_at, early_tempo, in_force, time_to, time_at, larger, after_warp_end, after_tempo, after_delay, after_warp, event_passed}
use Rattle.clock_walk.specs.Course.{pass_within, pass_while}
use Rattle.clock_walk.specs.Walk.{walk_on, walk}
use Rattle.clock_tests.specs.TimingNumbers.{rises, rises_from, starts_at_zero, timing_lists_number, offset_number, offsets_number, order_number, timing_number, beat_number}
use Rattle.clock_tests.specs.CursorNumbers.{places_in, rows_in, end_in, cursor_number}
use Rattle.clock.specs.Question.{filled, tempos_of, fresh_state, fresh_cursor, beginning, reply, cursor_refusal, player_number, question_number, question}
use Rattle.clock_edits_laws.specs.AgreeingTimings.{entries_on}
use Rattle.clock_edits_laws.specs.SmallestPairs.{SmallestPairs}

pub smallest-pairs : SmallestPairs
unfolding neg add sub mul div of_int rint hold eq lt le sum in_range every row_in lower list_number sooner offered end_offered ahead goes_before last_up_to tempo_at early_tempo in_force time_to larger after_warp_end after_tempo after_delay after_warp event_passed time_at pass_within pass_while walk_on walk rises rises_from starts_at_zero timing_lists_number offset_number offsets_number order_number timing_number beat_number places_in rows_in end_in cursor_number filled tempos_of fresh_state fresh_cursor beginning reply cursor_refusal player_number question_number question entries_on
smallest-pairs =
    record {
      delay_taken = (refl, refl);
      delay_on_the_row = refl;
      delay_moves = (refl, refl);
      tempo_taken = refl;
      tempo_counts = (refl, refl, refl);
      early_taken = refl;
      early_agree = record { tempos = refl; delays = refl; stops = refl; warps = refl };
      early_moves = (refl, refl);
      warps_taken = (refl, refl);
      warps_start = (refl, refl);
      warps_end = (refl, refl);
      warps_move = (refl, refl);
    }
