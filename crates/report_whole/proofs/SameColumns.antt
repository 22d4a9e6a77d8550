-- Charts whose columns are the same are the same. Assumes nothing.
use mathlib.Core.Path.{◌≡◌}
use Rattle.chart.specs.ChartColumns.{ChartColumns, list_columns, speed_columns, chart_columns}

pub record SameColumns (a b : ChartColumns) : Type 0 where
  pub tempo_beats : a.tempos.beats ≡ b.tempos.beats
  pub tempo_values : a.tempos.values ≡ b.tempos.values
  pub stop_beats : a.stops.beats ≡ b.stops.beats
  pub stop_values : a.stops.values ≡ b.stops.values
  pub delay_beats : a.delays.beats ≡ b.delays.beats
  pub delay_values : a.delays.values ≡ b.delays.values
  pub warp_beats : a.warps.beats ≡ b.warps.beats
  pub warp_lengths : a.warps.values ≡ b.warps.values
  pub speed_beats : a.speeds.beats ≡ b.speeds.beats
  pub speed_ratios : a.speeds.ratios ≡ b.speeds.ratios
  pub speed_delays : a.speeds.delays ≡ b.speeds.delays
  pub speed_units : a.speeds.units ≡ b.speeds.units
  pub scroll_beats : a.scrolls.beats ≡ b.scrolls.beats
  pub scroll_values : a.scrolls.values ≡ b.scrolls.values
  pub fake_beats : a.fakes.beats ≡ b.fakes.beats
  pub fake_lengths : a.fakes.values ≡ b.fakes.values

abbrev spelled : ChartColumns → ChartColumns
spelled c =
    chart_columns (list_columns c.tempos.beats c.tempos.values) (list_columns c.stops.beats c.stops.values)
    (list_columns c.delays.beats c.delays.values) (list_columns c.warps.beats c.warps.values)
    (speed_columns c.speeds.beats c.speeds.ratios c.speeds.delays c.speeds.units)
    (list_columns c.scrolls.beats c.scrolls.values) (list_columns c.fakes.beats c.fakes.values)

pub same-chart : {a b : ChartColumns} → SameColumns a b → a ≡ b
same-chart {a} {b} s = let same : spelled a ≡ spelled b = cc in same
