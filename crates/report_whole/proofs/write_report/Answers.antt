-- `report_whole::write_report` meets its contract: the input's own number, or the answer to its lists, assembled in columns of 256 places. Assumes nothing.
use Prim.Native.Nat.{ℕ}
use mathlib.Core.Path.{sym, ◌∙◌}
use lib.ListN.{length-replicate}
use lib.Ieee.{Float, binary32, of_bits}
use Rattle.text_page.proofs.Joined.{wrote_as}
use Rattle.report_whole.proofs.AssembledText.{assembled-text}
use Rattle.report_whole.proofs.ByNumber.{refused-text, taken-text}
use Rattle.report_whole.proofs.ReportFits.{reported}
use Rattle.report_whole.proofs.WrittenWarps.{written-front}
use borrow.Author.Rules.{rules}
use Rattle.report_whole.proofs.write_report.Goals as goal

pub returns-then-number-ne-TAKEN : goal.returns-then-number-ne-TAKEN
returns-then-number-ne-TAKEN c =
    let put = c.write_refusal.ensures in
    let text = refused-text _ _ _ c.answer-number.ensures c.if-number-ne-TAKEN.true in
    record {
      fact = reported _ _ _ (wrote_as text put.wrote);
      prefix_len = put.prefix_len;
    }

pub returns : goal.returns
returns c =
    let made = c.compute_timing_segments-done.ensures in
    let pass = c.warped_of-warped.ensures in
    let total = c.total_moved-moved.ensures in
    let put = c.write_answer.ensures in
    let marks = written-front _ _ _ c.answer-number.ensures c.if-number-ne-TAKEN.false c.count_of-warps.ensures c.front-warps_read.ensures c.front_units.ensures in
    let assembled = assembled-text _ _ (length-replicate {A = Float} 256 (of_bits binary32 0)) (length-replicate {A = ℕ} 256 0) marks made pass total in
    let taken = taken-text _ _ _ c.answer-number.ensures c.if-number-ne-TAKEN.false c.format_of.ensures
    c.count_of-tempos.ensures c.count_of-stops.ensures c.count_of-delays.ensures c.count_of-warps.ensures c.count_of-speeds.ensures c.count_of-scrolls.ensures c.count_of-fakes.ensures
    c.front.ensures c.front-2.ensures c.front-3.ensures c.front-4.ensures c.front-5.ensures c.front-6.ensures c.front-warps_read.ensures c.front-7.ensures c.front-8.ensures c.front-9.ensures c.front-10.ensures c.front_units-2.ensures c.front-11.ensures c.front-12.ensures c.front-13.ensures c.front-14.ensures in
    record {
      fact = reported _ _ _ (wrote_as (assembled ∙ taken) put.fact);
      prefix_len = put.prefix_len;
    }

pub slice_bounds-warped_of-end : goal.slice_bounds-warped_of-end
slice_bounds-warped_of-end c = sym c.compute_timing_segments-done.auto.out_warp_beats

pub slice_bounds-warped_of-end-2 : goal.slice_bounds-warped_of-end-2
slice_bounds-warped_of-end-2 c = sym c.compute_timing_segments-done.auto.out_warp_lengths

pub slice_bounds-write_answer-end : goal.slice_bounds-write_answer-end
slice_bounds-write_answer-end c = sym c.compute_timing_segments-done.auto.out_tempo_beats

pub slice_bounds-write_answer-end-2 : goal.slice_bounds-write_answer-end-2
slice_bounds-write_answer-end-2 c = sym c.compute_timing_segments-done.auto.out_tempo_values

pub slice_bounds-write_answer-end-3 : goal.slice_bounds-write_answer-end-3
slice_bounds-write_answer-end-3 c = sym c.compute_timing_segments-done.auto.out_stop_beats

pub slice_bounds-write_answer-end-4 : goal.slice_bounds-write_answer-end-4
slice_bounds-write_answer-end-4 c = sym c.compute_timing_segments-done.auto.out_stop_values

pub slice_bounds-write_answer-end-5 : goal.slice_bounds-write_answer-end-5
slice_bounds-write_answer-end-5 c = sym c.compute_timing_segments-done.auto.out_delay_beats

pub slice_bounds-write_answer-end-6 : goal.slice_bounds-write_answer-end-6
slice_bounds-write_answer-end-6 c = sym c.compute_timing_segments-done.auto.out_delay_values

pub slice_bounds-write_answer-end-7 : goal.slice_bounds-write_answer-end-7
slice_bounds-write_answer-end-7 c = sym c.compute_timing_segments-done.auto.out_warp_beats

pub slice_bounds-write_answer-end-8 : goal.slice_bounds-write_answer-end-8
slice_bounds-write_answer-end-8 c = sym c.compute_timing_segments-done.auto.out_warp_lengths

pub slice_bounds-write_answer-end-9 : goal.slice_bounds-write_answer-end-9
slice_bounds-write_answer-end-9 c = sym c.compute_timing_segments-done.auto.out_warp_marks

pub slice_bounds-write_answer-end-10 : goal.slice_bounds-write_answer-end-10
slice_bounds-write_answer-end-10 c = sym c.compute_timing_segments-done.auto.out_speed_beats

pub slice_bounds-write_answer-end-11 : goal.slice_bounds-write_answer-end-11
slice_bounds-write_answer-end-11 c = sym c.compute_timing_segments-done.auto.out_speed_ratios

pub slice_bounds-write_answer-end-12 : goal.slice_bounds-write_answer-end-12
slice_bounds-write_answer-end-12 c = sym c.compute_timing_segments-done.auto.out_speed_delays

pub slice_bounds-write_answer-end-13 : goal.slice_bounds-write_answer-end-13
slice_bounds-write_answer-end-13 c = sym c.compute_timing_segments-done.auto.out_speed_units

pub slice_bounds-write_answer-end-14 : goal.slice_bounds-write_answer-end-14
slice_bounds-write_answer-end-14 c = sym c.compute_timing_segments-done.auto.out_scroll_beats

pub slice_bounds-write_answer-end-15 : goal.slice_bounds-write_answer-end-15
slice_bounds-write_answer-end-15 c = sym c.compute_timing_segments-done.auto.out_scroll_values

pub slice_bounds-write_answer-end-16 : goal.slice_bounds-write_answer-end-16
slice_bounds-write_answer-end-16 c = sym c.compute_timing_segments-done.auto.out_fake_beats

pub slice_bounds-write_answer-end-17 : goal.slice_bounds-write_answer-end-17
slice_bounds-write_answer-end-17 c = sym c.compute_timing_segments-done.auto.out_fake_lengths

pub shape_of-page : goal.shape_of-page
shape_of-page c = c.write_answer.auto.page
