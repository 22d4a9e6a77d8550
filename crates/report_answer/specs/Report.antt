-- What is written of a number and of columns: the answer line, and behind it the first entries of the lists where they were taken. Definitions only.
use Rattle.std.specs.Prelude.{ℕ, List, [], ◌++◌, eqb, take, Float}
use Rattle.picks.specs.Pick.{pick}
use Rattle.chart.specs.ChartColumns.{ChartColumns, ChartRoom}
use Rattle.report_text.specs.Output.{answer_line, lists_text, front_lists}

unfoldable pub done_text : (number : ℕ) → Float → (warped moved : ℕ) → (marks : List ℕ) → (counts : ChartRoom) → ChartColumns → List ℕ
done_text number offset warped moved marks counts lists =
    answer_line number ++ pick (eqb number 0) (lists_text offset warped moved (take counts.warps marks) (front_lists counts lists)) []
