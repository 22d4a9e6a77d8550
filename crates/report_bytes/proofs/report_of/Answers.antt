-- `report_bytes::report_of` meets its contract: the bytes are fed, and what they leave is written. Assumes nothing.
use mathlib.Core.Path.{sym}
use lib.Ieee.{of_bits}
use Rattle.report_whole.proofs.ReadReport.{read_report, reported_as}
use borrow.Author.Rules.{rules}
use Rattle.report_bytes.proofs.report_of.Goals as goal

pub returns : goal.returns
unfolding of_bits
returns c =
    let put = c.write_report.ensures in
    let fed = c.feed-reading.ensures in
    let begun = c.begin.ensures in
    let text = read_report _ begun fed.value fed.counts_after fed.tempo_beats_after fed.tempo_values_after fed.stop_beats_after fed.stop_values_after fed.delay_beats_after fed.delay_values_after fed.warp_beats_after fed.warp_lengths_after fed.speed_beats_after fed.speed_ratios_after fed.speed_delays_after fed.speed_units_after fed.scroll_beats_after fed.scroll_values_after fed.fake_beats_after fed.fake_lengths_after in
    record {
      reported = reported_as text put.fact;
      prefix_len = put.prefix_len;
    }

pub slice_bounds-write_report-end : goal.slice_bounds-write_report-end
slice_bounds-write_report-end c = sym c.feed-reading.auto.counts

pub slice_bounds-write_report-end-2 : goal.slice_bounds-write_report-end-2
slice_bounds-write_report-end-2 c = sym c.feed-reading.auto.tempo_beats

pub slice_bounds-write_report-end-3 : goal.slice_bounds-write_report-end-3
slice_bounds-write_report-end-3 c = sym c.feed-reading.auto.tempo_values

pub slice_bounds-write_report-end-4 : goal.slice_bounds-write_report-end-4
slice_bounds-write_report-end-4 c = sym c.feed-reading.auto.stop_beats

pub slice_bounds-write_report-end-5 : goal.slice_bounds-write_report-end-5
slice_bounds-write_report-end-5 c = sym c.feed-reading.auto.stop_values

pub slice_bounds-write_report-end-6 : goal.slice_bounds-write_report-end-6
slice_bounds-write_report-end-6 c = sym c.feed-reading.auto.delay_beats

pub slice_bounds-write_report-end-7 : goal.slice_bounds-write_report-end-7
slice_bounds-write_report-end-7 c = sym c.feed-reading.auto.delay_values

pub slice_bounds-write_report-end-8 : goal.slice_bounds-write_report-end-8
slice_bounds-write_report-end-8 c = sym c.feed-reading.auto.warp_beats

pub slice_bounds-write_report-end-9 : goal.slice_bounds-write_report-end-9
slice_bounds-write_report-end-9 c = sym c.feed-reading.auto.warp_lengths

pub slice_bounds-write_report-end-10 : goal.slice_bounds-write_report-end-10
slice_bounds-write_report-end-10 c = sym c.feed-reading.auto.speed_beats

pub slice_bounds-write_report-end-11 : goal.slice_bounds-write_report-end-11
slice_bounds-write_report-end-11 c = sym c.feed-reading.auto.speed_ratios

pub slice_bounds-write_report-end-12 : goal.slice_bounds-write_report-end-12
slice_bounds-write_report-end-12 c = sym c.feed-reading.auto.speed_delays

pub slice_bounds-write_report-end-13 : goal.slice_bounds-write_report-end-13
slice_bounds-write_report-end-13 c = sym c.feed-reading.auto.speed_units

pub slice_bounds-write_report-end-14 : goal.slice_bounds-write_report-end-14
slice_bounds-write_report-end-14 c = sym c.feed-reading.auto.scroll_beats

pub slice_bounds-write_report-end-15 : goal.slice_bounds-write_report-end-15
slice_bounds-write_report-end-15 c = sym c.feed-reading.auto.scroll_values

pub slice_bounds-write_report-end-16 : goal.slice_bounds-write_report-end-16
slice_bounds-write_report-end-16 c = sym c.feed-reading.auto.fake_beats

pub slice_bounds-write_report-end-17 : goal.slice_bounds-write_report-end-17
slice_bounds-write_report-end-17 c = sym c.feed-reading.auto.fake_lengths

pub shape_of-page : goal.shape_of-page
shape_of-page c = c.write_report.auto.page
