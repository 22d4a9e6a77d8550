-- What an input's bytes left in columns of zeros has one text: the report of the bytes. Assumes nothing.
use Prim.Native.Nat.{ℕ}
use mathlib.Core.Path.{◌≡◌, subst}
use mathlib.Core.List.{List}
use lib.ListN.{replicate}
use lib.Ieee.{Float}
use Rattle.ieee.specs.Constants.{plus_zero}
use Rattle.chart.specs.ChartColumns.{list_columns, speed_columns, chart_columns}
use Rattle.report_form.specs.declared.Reading.{Reading}
use Rattle.report_form.specs.Form.{start, read_on}
use Rattle.report_form.specs.Stores.{number_in, unit_in, count_in, column_after}
use Rattle.report_whole.specs.Whole.{report_text, report_of, Reported}

pub read_report : (input : List ℕ) {begun reading : Reading} {counts : List ℕ} {tempo_beats tempo_values stop_beats stop_values delay_beats delay_values warp_beats warp_lengths speed_beats speed_ratios speed_delays : List Float} {speed_units : List ℕ} {scroll_beats scroll_values fake_beats fake_lengths : List Float}
    → begun ≡ start → reading ≡ read_on begun input → counts ≡ column_after count_in begun input (replicate 9 0)
    → tempo_beats ≡ column_after (number_in 2 1) begun input (replicate 256 plus_zero)
    → tempo_values ≡ column_after (number_in 2 2) begun input (replicate 256 plus_zero)
    → stop_beats ≡ column_after (number_in 3 1) begun input (replicate 256 plus_zero)
    → stop_values ≡ column_after (number_in 3 2) begun input (replicate 256 plus_zero)
    → delay_beats ≡ column_after (number_in 4 1) begun input (replicate 256 plus_zero)
    → delay_values ≡ column_after (number_in 4 2) begun input (replicate 256 plus_zero)
    → warp_beats ≡ column_after (number_in 5 1) begun input (replicate 256 plus_zero)
    → warp_lengths ≡ column_after (number_in 5 2) begun input (replicate 256 plus_zero)
    → speed_beats ≡ column_after (number_in 6 1) begun input (replicate 256 plus_zero)
    → speed_ratios ≡ column_after (number_in 6 2) begun input (replicate 256 plus_zero)
    → speed_delays ≡ column_after (number_in 6 3) begun input (replicate 256 plus_zero)
    → speed_units ≡ column_after (unit_in 6 4) begun input (replicate 256 0)
    → scroll_beats ≡ column_after (number_in 7 1) begun input (replicate 256 plus_zero)
    → scroll_values ≡ column_after (number_in 7 2) begun input (replicate 256 plus_zero)
    → fake_beats ≡ column_after (number_in 8 1) begun input (replicate 256 plus_zero)
    → fake_lengths ≡ column_after (number_in 8 2) begun input (replicate 256 plus_zero)
    → report_text reading counts (chart_columns (list_columns tempo_beats tempo_values) (list_columns stop_beats stop_values) (list_columns delay_beats delay_values) (list_columns warp_beats warp_lengths) (speed_columns speed_beats speed_ratios speed_delays speed_units) (list_columns scroll_beats scroll_values) (list_columns fake_beats fake_lengths)) ≡ report_of input
unfolding report_of
read_report input b r c e1 e2 e3 e4 e5 e6 e7 e8 e9 e10 e11 e12 e13 e14 e15 e16 = cc

pub reported_as : {text same : List ℕ} {end : ℕ} {old new : List ℕ} → text ≡ same → Reported text end old new → Reported same end old new
reported_as {end = end} {old = old} {new = new} e r = subst (λ (t : List ℕ). Reported t end old new) e r
