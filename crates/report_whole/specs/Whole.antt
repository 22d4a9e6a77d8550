-- The whole report: what is written for what was read of an input, its own number or the answer to its lists. Definitions only.
use Rattle.std.specs.Prelude.{ℕ, ◌≤◌, Bool, List, eqb, length}
use Rattle.picks.specs.Pick.{pick}
use Rattle.chart.specs.declared.TimingFormat.{TimingFormat}
use Rattle.chart.specs.declared.TimingFormat.TheVariants.{Sm, Ssc}
use Rattle.chart.specs.ChartColumns.{ChartColumns, ChartRoom}
use Rattle.report_form.specs.declared.Reading.{Reading}
use Rattle.report_form.specs.Form.{start, read_on, answer_of}
use Rattle.report_form.specs.ReadColumns.{entries_counted, counts_read, chart_read}
use Rattle.text_page.specs.Page.{Wrote, WroteWhole}
use Rattle.report_text.specs.Output.{answer_line, front_lists}
use Rattle.report_whole.specs.Taken.{taken_text}

abbrev pub format_read : Bool → TimingFormat
format_read ssc = pick ssc Ssc Sm

abbrev pub lists_counted : List ℕ → ChartRoom
lists_counted counts = record {
  tempos = entries_counted counts 2;
  stops = entries_counted counts 3;
  delays = entries_counted counts 4;
  warps = entries_counted counts 5;
  speeds = entries_counted counts 6;
  scrolls = entries_counted counts 7;
  fakes = entries_counted counts 8;
}

-- THE REPORT: the answer line of an input that is refused before its lists are looked at; else the answer to its lists, each column as far as it was filled
unfoldable pub report_text : Reading → (counts : List ℕ) → ChartColumns → List ℕ
report_text reading counts columns =
    pick (eqb (answer_of reading counts) 0)
    (taken_text (format_read reading.ssc) (front_lists (lists_counted counts) columns))
    (answer_line (answer_of reading counts))

-- of an input's bytes
unfoldable pub report_of : List ℕ → List ℕ
report_of input = report_text (read_on start input) (counts_read input) (chart_read input)

-- The one outcome of writing a report from a page's first byte on; a page of 45,400 bytes holds every one whole.
pub record Reported (text : List ℕ) (end : ℕ) (old new : List ℕ) : Type 0 where
  pub wrote : Wrote text 0 end old new
  pub whole : 45400 ≤ length old → WroteWhole text end old new
