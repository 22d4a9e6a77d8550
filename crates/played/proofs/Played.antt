-- The played examples hold, each by computation. A definition that one computes with stands on the `unfolding` line. Assumes nothing.
use mathlib.Core.Path.{refl}
use lib.Ieee.{add, sub, ne, mul, div, of_int, neg, eq, lt, le, to_bits, of_bits}
use Rattle.ieee.specs.Rounding.{rint, hold}
use Rattle.order.specs.Order.{run, put, tidied, never_falls, may_precede}
use Rattle.order.specs.Entries.{entries}
use Rattle.rows.specs.RowKey.{row_key}
use Rattle.order.specs.FloatKey.{float_key}
use Rattle.tidy_rows.specs.RowTidying.{tidy_rows}
use Rattle.tidy_tempos.specs.TempoTidying.{from_zero_else, changes_after, changes, tidy_tempos}
use Rattle.ieee.specs.Narrowing.{narrow}
use Rattle.lookup.specs.Lookups.{last_passes, is_paused, is_warped}
use Rattle.stops_for_sm.specs.Merging.{lesser, least_beat, meets, leading, forward, turn, is_over, sum_written, merged_within, merged_stops}
use Rattle.limits.specs.Numbers.{in_range, every, row_in}
use Rattle.limits.specs.Refusals.{lower, list_number}
use Rattle.clock_walk.specs.Events.{sooner, offered, end_offered, ahead, goes_before}
use Rattle.clock_walk.specs.Passing.{last_up_to, tempo_at, early_tempo, in_force, time_to, time_at, larger, after_warp_end, after_tempo, after_stop, after_warp, event_passed}
use Rattle.clock_walk.specs.Course.{pass_within, pass_while}
use Rattle.clock_walk.specs.Walk.{walk_on, walk}
use Rattle.clock_tests.specs.TimingNumbers.{rises, rises_from, starts_at_zero, timing_lists_number, offset_number, offsets_number, order_number, timing_number, beat_number}
use Rattle.clock_tests.specs.CursorNumbers.{places_in, rows_in, end_in, cursor_number}
use Rattle.clock.specs.Question.{filled, tempos_of, fresh_state, fresh_cursor, beginning, reply, cursor_refusal, player_number, question_number, question}
use Rattle.tidy_scrolls.specs.ScrollTidying.{tidy_scrolls, scrolls_number}
use Rattle.tidy_kept.specs.Near.{near_to}
use Rattle.tidy_kept.specs.Keeping.{on_last_row, keep, at_front, on_row_of, previous, cleared, settled, amid, placed_between, placed_after, falls_while, kept_of, keep_number}
use Rattle.played.specs.Numbers.{decimal_float}
use Rattle.played.specs.Table.{Examples}
use Rattle.played.proofs.PlayedSm.{sm_backward, sm_backward_from_the_start}

pub played : Examples
unfolding lesser least_beat meets leading forward turn is_over sum_written merged_within merged_stops ne decimal_float neg add sub mul div of_int rint hold eq lt le to_bits narrow last_passes is_paused is_warped run put tidied entries row_key float_key tidy_rows from_zero_else changes_after changes tidy_tempos in_range every row_in lower list_number sooner offered end_offered ahead goes_before last_up_to tempo_at early_tempo in_force time_to larger after_warp_end after_tempo after_stop after_warp event_passed time_at pass_within pass_while walk_on walk rises rises_from starts_at_zero timing_lists_number offset_number offsets_number order_number timing_number beat_number places_in rows_in end_in cursor_number filled tempos_of fresh_state fresh_cursor beginning reply cursor_refusal player_number question_number question of_bits never_falls may_precede near_to on_last_row keep at_front on_row_of previous cleared settled amid placed_between placed_after falls_while kept_of keep_number tidy_scrolls scrolls_number
played =
    record {
      rows_f64 = refl;
      rows_f32 = refl;
      stops = refl;
      tempos_of_one_beat = refl;
      tempos_that_change = refl;
      later_warp_tested = refl;
      warp_for_stop = refl;
      beat_of_a_stop = refl;
      beat_behind_a_stop = refl;
      beat_within_a_warp = refl;
      beat_behind_a_warp = refl;
      scrolls_in_order = refl;
      scrolls_out_of_order = refl;
      scrolls_that_fall_last = refl;
      scrolls_that_fall = refl;
      sm_backward = sm_backward;
      sm_backward_from_the_start = sm_backward_from_the_start;
    }
