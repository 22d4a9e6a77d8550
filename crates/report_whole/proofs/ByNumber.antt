-- The report's text by the input's own number: its answer line, or the answer to the lists. Assumes nothing.
use Prim.Native.Nat.{ℕ}
use mathlib.Core.Path.{◌≡◌, sym, ap, ◌∙◌}
use mathlib.Core.List.{List}
use borrow.Author.Tests.{eq-eqb, ne_eqb}
use lib.ListN.{take}
use lib.Ieee.{Float}
use Rattle.chart.specs.declared.TimingFormat.{TimingFormat}
use Rattle.chart.specs.ChartColumns.{ChartColumns, list_columns, speed_columns, chart_columns}
use Rattle.report_form.specs.declared.Reading.{Reading}
use Rattle.report_form.specs.Form.{answer_of}
use Rattle.report_text.specs.Output.{answer_line}
use Rattle.report_whole.specs.Taken.{taken_text}
use Rattle.report_form.specs.ReadColumns.{entries_counted}
use Rattle.report_whole.specs.Whole.{format_read, report_text}

module _ (reading : Reading) (counts : List ℕ) where
  pub refused-text : (columns : ChartColumns) {number : ℕ} → number ≡ answer_of reading counts → (number ≡ 0 → ⊥) → answer_line number ≡ report_text reading counts columns
  unfolding report_text
  refused-text columns e h = rw (ne_eqb (answer_of reading counts) 0 (λ z. h (e ∙ z))) (ap answer_line e)

  pub taken-text : (columns : ChartColumns) {number : ℕ} {format : TimingFormat} {tempos stops delays warps speeds scrolls fakes : ℕ}
      {front_tempo_beats front_tempo_values front_stop_beats front_stop_values front_delay_beats front_delay_values front_warp_beats front_warp_lengths front_speed_beats front_speed_ratios front_speed_delays : List Float} {front_speed_units : List ℕ}
      {front_scroll_beats front_scroll_values front_fake_beats front_fake_lengths : List Float}
      → number ≡ answer_of reading counts → number ≡ 0 → format ≡ format_read reading.ssc
      → tempos ≡ entries_counted counts 2 → stops ≡ entries_counted counts 3 → delays ≡ entries_counted counts 4 → warps ≡ entries_counted counts 5
      → speeds ≡ entries_counted counts 6 → scrolls ≡ entries_counted counts 7 → fakes ≡ entries_counted counts 8
      → front_tempo_beats ≡ take tempos columns.tempos.beats → front_tempo_values ≡ take tempos columns.tempos.values → front_stop_beats ≡ take stops columns.stops.beats → front_stop_values ≡ take stops columns.stops.values
      → front_delay_beats ≡ take delays columns.delays.beats → front_delay_values ≡ take delays columns.delays.values → front_warp_beats ≡ take warps columns.warps.beats → front_warp_lengths ≡ take warps columns.warps.values
      → front_speed_beats ≡ take speeds columns.speeds.beats → front_speed_ratios ≡ take speeds columns.speeds.ratios → front_speed_delays ≡ take speeds columns.speeds.delays → front_speed_units ≡ take speeds columns.speeds.units
      → front_scroll_beats ≡ take scrolls columns.scrolls.beats → front_scroll_values ≡ take scrolls columns.scrolls.values → front_fake_beats ≡ take fakes columns.fakes.beats → front_fake_lengths ≡ take fakes columns.fakes.values
      → taken_text format (chart_columns (list_columns front_tempo_beats front_tempo_values) (list_columns front_stop_beats front_stop_values) (list_columns front_delay_beats front_delay_values) (list_columns front_warp_beats front_warp_lengths) (speed_columns front_speed_beats front_speed_ratios front_speed_delays front_speed_units) (list_columns front_scroll_beats front_scroll_values) (list_columns front_fake_beats front_fake_lengths))
      ≡ report_text reading counts columns
  unfolding report_text
  taken-text columns e z f c2 c3 c4 c5 c6 c7 c8 e1 e2 e3 e4 e5 e6 e7 e8 e9 e10 e11 e12 e13 e14 e15 e16 = rw (eq-eqb (answer_of reading counts) 0 (sym e ∙ z)) (cc)
