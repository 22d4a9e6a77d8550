-- `exports_assembly::marrighentu_compute_timing_segments` is the call with the format that is named. Assumes nothing.
use borrow.Author.Rules.{rules}
use Rattle.exports_assembly.proofs.marrighentu_compute_timing_segments.Goals as goal

pub shape_of-out_tempo_beats : goal.shape_of-out_tempo_beats
shape_of-out_tempo_beats c = c.out_tempo_beats-1.given

pub shape_of-out_tempo_values : goal.shape_of-out_tempo_values
shape_of-out_tempo_values c = c.out_tempo_values-1.given

pub shape_of-out_stop_beats : goal.shape_of-out_stop_beats
shape_of-out_stop_beats c = c.out_stop_beats-1.given

pub shape_of-out_stop_values : goal.shape_of-out_stop_values
shape_of-out_stop_values c = c.out_stop_values-1.given

pub shape_of-out_delay_beats : goal.shape_of-out_delay_beats
shape_of-out_delay_beats c = c.out_delay_beats-1.given

pub shape_of-out_delay_values : goal.shape_of-out_delay_values
shape_of-out_delay_values c = c.out_delay_values-1.given

pub shape_of-out_warp_beats : goal.shape_of-out_warp_beats
shape_of-out_warp_beats c = c.out_warp_beats-1.given

pub shape_of-out_warp_lengths : goal.shape_of-out_warp_lengths
shape_of-out_warp_lengths c = c.out_warp_lengths-1.given

pub shape_of-out_warp_marks : goal.shape_of-out_warp_marks
shape_of-out_warp_marks c = c.out_warp_marks-1.given

pub shape_of-out_speed_beats : goal.shape_of-out_speed_beats
shape_of-out_speed_beats c = c.out_speed_beats-1.given

pub shape_of-out_speed_ratios : goal.shape_of-out_speed_ratios
shape_of-out_speed_ratios c = c.out_speed_ratios-1.given

pub shape_of-out_speed_delays : goal.shape_of-out_speed_delays
shape_of-out_speed_delays c = c.out_speed_delays-1.given

pub shape_of-out_speed_units : goal.shape_of-out_speed_units
shape_of-out_speed_units c = c.out_speed_units-1.given

pub shape_of-out_scroll_beats : goal.shape_of-out_scroll_beats
shape_of-out_scroll_beats c = c.out_scroll_beats-1.given

pub shape_of-out_scroll_values : goal.shape_of-out_scroll_values
shape_of-out_scroll_values c = c.out_scroll_values-1.given

pub shape_of-out_fake_beats : goal.shape_of-out_fake_beats
shape_of-out_fake_beats c = c.out_fake_beats-1.given

pub shape_of-out_fake_lengths : goal.shape_of-out_fake_lengths
shape_of-out_fake_lengths c = c.out_fake_lengths-1.given

pub returns : goal.returns
returns c = rw c.format_of-named.ensures at c.compute_timing_segments.ensures
