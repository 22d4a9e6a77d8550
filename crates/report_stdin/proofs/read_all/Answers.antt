-- `report_stdin::read_all` feeds each piece that it reads, and goes by what the read answered. Assumes nothing.
use Rattle.chart.specs.ChartColumns.{list_columns, speed_columns, chart_columns}
use Rattle.report_stdin.specs.Fed.{Fed}
use Rattle.report_stdin.proofs.Pieces.{fed_none, fed_zero, fed_join, fed_answered}
use Rattle.report_stdin.proofs.read_all.Goals as goal
use Rattle.report_stdin.proofs.read_all.Goals.{After-answered-after}

pub loop-init : goal.loop-init
loop-init c = fed_none c.begin-reading.ensures

-- the columns as a turn finds them, and as the piece leaves them
piece-fed : (c : After-answered-after) →
    Fed c.loop.reading c.answered-after.result.reading c.loop.counts c.feed-fed.new.counts
    (chart_columns (list_columns c.loop.tempo_beats c.loop.tempo_values) (list_columns c.loop.stop_beats c.loop.stop_values) (list_columns c.loop.delay_beats c.loop.delay_values) (list_columns c.loop.warp_beats c.loop.warp_lengths) (speed_columns c.loop.speed_beats c.loop.speed_ratios c.loop.speed_delays c.loop.speed_units) (list_columns c.loop.scroll_beats c.loop.scroll_values) (list_columns c.loop.fake_beats c.loop.fake_lengths))
    (chart_columns (list_columns c.feed-fed.new.tempo_beats c.feed-fed.new.tempo_values) (list_columns c.feed-fed.new.stop_beats c.feed-fed.new.stop_values) (list_columns c.feed-fed.new.delay_beats c.feed-fed.new.delay_values) (list_columns c.feed-fed.new.warp_beats c.feed-fed.new.warp_lengths) (speed_columns c.feed-fed.new.speed_beats c.feed-fed.new.speed_ratios c.feed-fed.new.speed_delays c.feed-fed.new.speed_units) (list_columns c.feed-fed.new.scroll_beats c.feed-fed.new.scroll_values) (list_columns c.feed-fed.new.fake_beats c.feed-fed.new.fake_lengths))
piece-fed c =
    let fed = c.feed-fed.ensures in
    fed_answered _
    (record {
      bytes = _;
      read = fed.value;
      counts = fed.counts_after;
      tempo_beats = fed.tempo_beats_after;
      tempo_values = fed.tempo_values_after;
      stop_beats = fed.stop_beats_after;
      stop_values = fed.stop_values_after;
      delay_beats = fed.delay_beats_after;
      delay_values = fed.delay_values_after;
      warp_beats = fed.warp_beats_after;
      warp_lengths = fed.warp_lengths_after;
      speed_beats = fed.speed_beats_after;
      speed_ratios = fed.speed_ratios_after;
      speed_delays = fed.speed_delays_after;
      speed_units = fed.speed_units_after;
      scroll_beats = fed.scroll_beats_after;
      scroll_values = fed.scroll_values_after;
      fake_beats = fed.fake_beats_after;
      fake_lengths = fed.fake_lengths_after;
    })
    c.answered-after.ensures.reading_value

pub returns-then-not-after : goal.returns-then-not-after
returns-then-not-after c = fed_join c.loop.invariant (piece-fed (goal.at.returns-then-not-after c).After-answered-after)

pub loop-preserved : goal.loop-preserved
loop-preserved c = fed_join c.loop.invariant (piece-fed (goal.at.loop-preserved c).After-answered-after)

pub returns : goal.returns
returns c = fed_join c.loop.invariant (fed_zero c.cut_short.ensures.value)
