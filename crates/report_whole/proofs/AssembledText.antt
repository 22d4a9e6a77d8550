-- What assembly leaves in columns of 256 places has the text of the taken report. Assumes nothing.
use Prim.Native.Nat.{ℕ}
use mathlib.Core.Path.{◌≡◌, ◌∙◌}
use mathlib.Core.List.{List}
use lib.ListN.{length, take}
use lib.Ieee.{Float}
use Rattle.order.specs.Entries.{entries}
use Rattle.chart.specs.declared.TimingFormat.{TimingFormat}
use Rattle.assembly.specs.declared.Assembled.{Assembled}
use Rattle.chart.specs.ChartColumns.{ChartColumns, list_columns, speed_columns, chart_columns}
use Rattle.assembly.specs.Assembly.{moved_total, Assembles}
use Rattle.lookup_warped.specs.OnePass.{one_pass}
use Rattle.report_answer.specs.Report.{done_text}
use Rattle.assembly_marks.specs.LentMarks.{mark_columns}
use Rattle.report_whole.specs.Taken.{all_written, taken_text}
use Rattle.report_whole.proofs.TakenReport.{written, done_is_taken}

-- the rooms that are lent: each column is one, and that of the marks is as that of the units
abbrev pub all_rooms : List Float → List ℕ → ChartColumns
all_rooms room units =
    chart_columns (list_columns room room) (list_columns room room) (list_columns room room) (list_columns room room)
    (speed_columns room room room units) (list_columns room room) (list_columns room room)

module _ (format : TimingFormat) (raw : ChartColumns) {done : Assembled} {room : List Float} {units : List ℕ} {new : ChartColumns} {given marks : List ℕ} {warped moved : ℕ} where
  pub assembled-text : length room ≡ 256 → length units ≡ 256 → given ≡ all_written raw.warps
      → Assembles 256 format raw (mark_columns given units) done (all_rooms room units) new marks
      → warped ≡ one_pass (entries (take done.warps new.warps.beats) (take done.warps new.warps.values))
      → moved ≡ moved_total done.moved
      → done_text done.number done.offset warped moved marks (written done) new ≡ taken_text format raw
  assembled-text r u w made pass total = done_is_taken format raw done _ _ new _ made w pass total (rw (r, u, w) at made.number_is)
