-- Bytes fed into columns, whichever they are. Definitions only.
use Rattle.std.specs.Prelude.{ℕ, List, ◌≡◌}
use Rattle.chart.specs.ChartColumns.{ChartColumns}
use Rattle.report_form.specs.declared.Reading.{Reading}
use Rattle.report_form.specs.Form.{read_on}
use Rattle.report_form.specs.Stores.{number_in, unit_in, count_in, column_after}

-- There are bytes that lead from one state of reading to another, and each column from what it held before to what it holds: what a call of
-- the system's read hands over is known by no contract.
pub record Fed (begun reading : Reading) (counts_old counts_new : List ℕ) (old new : ChartColumns) : Type 0 where
  pub bytes : List ℕ
  pub read : reading ≡ read_on begun bytes
  pub counts : counts_new ≡ column_after count_in begun bytes counts_old
  pub tempo_beats : new.tempos.beats ≡ column_after (number_in 2 1) begun bytes old.tempos.beats
  pub tempo_values : new.tempos.values ≡ column_after (number_in 2 2) begun bytes old.tempos.values
  pub stop_beats : new.stops.beats ≡ column_after (number_in 3 1) begun bytes old.stops.beats
  pub stop_values : new.stops.values ≡ column_after (number_in 3 2) begun bytes old.stops.values
  pub delay_beats : new.delays.beats ≡ column_after (number_in 4 1) begun bytes old.delays.beats
  pub delay_values : new.delays.values ≡ column_after (number_in 4 2) begun bytes old.delays.values
  pub warp_beats : new.warps.beats ≡ column_after (number_in 5 1) begun bytes old.warps.beats
  pub warp_lengths : new.warps.values ≡ column_after (number_in 5 2) begun bytes old.warps.values
  pub speed_beats : new.speeds.beats ≡ column_after (number_in 6 1) begun bytes old.speeds.beats
  pub speed_ratios : new.speeds.ratios ≡ column_after (number_in 6 2) begun bytes old.speeds.ratios
  pub speed_delays : new.speeds.delays ≡ column_after (number_in 6 3) begun bytes old.speeds.delays
  pub speed_units : new.speeds.units ≡ column_after (unit_in 6 4) begun bytes old.speeds.units
  pub scroll_beats : new.scrolls.beats ≡ column_after (number_in 7 1) begun bytes old.scrolls.beats
  pub scroll_values : new.scrolls.values ≡ column_after (number_in 7 2) begun bytes old.scrolls.values
  pub fake_beats : new.fakes.beats ≡ column_after (number_in 8 1) begun bytes old.fakes.beats
  pub fake_lengths : new.fakes.values ≡ column_after (number_in 8 2) begun bytes old.fakes.values
