-- `report_stdin::read_all` has fed so far what it read. Assumes nothing.
use Rattle.chart.specs.ChartColumns.{list_columns, speed_columns, chart_columns}
use Rattle.report_form.specs.Form.{start}
use Rattle.report_stdin.specs.Fed.{Fed}
use Rattle.report_stdin.proofs.read_all.Given as goal

abbrev pub invariant-loop : goal.invariant-loop
invariant-loop l =
    Fed start l.reading l.fn.counts l.counts
    (chart_columns (list_columns l.fn.tempo_beats l.fn.tempo_values) (list_columns l.fn.stop_beats l.fn.stop_values) (list_columns l.fn.delay_beats l.fn.delay_values) (list_columns l.fn.warp_beats l.fn.warp_lengths) (speed_columns l.fn.speed_beats l.fn.speed_ratios l.fn.speed_delays l.fn.speed_units) (list_columns l.fn.scroll_beats l.fn.scroll_values) (list_columns l.fn.fake_beats l.fn.fake_lengths))
    (chart_columns (list_columns l.tempo_beats l.tempo_values) (list_columns l.stop_beats l.stop_values) (list_columns l.delay_beats l.delay_values) (list_columns l.warp_beats l.warp_lengths) (speed_columns l.speed_beats l.speed_ratios l.speed_delays l.speed_units) (list_columns l.scroll_beats l.scroll_values) (list_columns l.fake_beats l.fake_lengths))
