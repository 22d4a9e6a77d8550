-- Every report fits a page of 45,400 bytes. Assumes nothing.
use Prim.Native.Nat.{ℕ, ◌≤◌}
use mathlib.Core.Bool.{Bool, true, false}
use mathlib.Core.List.{List}
use native.Mathlib.Omega.{arith}
use native.Mathlib.Nat.{le_trans}
use lib.Dec.{eqb}
use lib.ListN.{length}
use Rattle.picks.specs.Pick.{pick}
use Rattle.chart.specs.ChartColumns.{ChartColumns}
use Rattle.report_form.specs.declared.Reading.{Reading}
use Rattle.report_form.specs.Form.{answer_of}
use Rattle.text_page.specs.Page.{Wrote}
use Rattle.report_text.specs.Output.{answer_line, front_lists}
use Rattle.report_text.proofs.TextSizes.{answer-size}
use Rattle.text_page.proofs.WholePage.{wrote-whole}
use Rattle.report_whole.specs.Taken.{taken_text}
use Rattle.report_whole.proofs.TakenFits.{taken-size}
use Rattle.report_whole.specs.Whole.{format_read, lists_counted, report_text, Reported}

module _ (reading : Reading) (counts : List ℕ) (columns : ChartColumns) where
  report_size : length (report_text reading counts columns) ≤ 45400
  unfolding report_text
  report_size = by_case (eqb (answer_of reading counts) 0)
    where
      taken : List ℕ
      taken = taken_text (format_read reading.ssc) (front_lists (lists_counted counts) columns)

      by_case : (t : Bool) → length (pick t taken (answer_line (answer_of reading counts))) ≤ 45400
      by_case true = taken-size _ _
      by_case false = omega (arith, answer-size (answer_of reading counts))

  pub reported : {end : ℕ} {old new : List ℕ} → Wrote (report_text reading counts columns) 0 end old new → Reported (report_text reading counts columns) end old new
  reported w = record { wrote = w; whole = λ h. wrote-whole (le_trans report_size h) w }
