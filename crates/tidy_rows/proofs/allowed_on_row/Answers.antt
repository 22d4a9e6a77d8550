-- `tidy_rows::allowed_on_row` goes by the mark of the row. Assumes nothing.
use mathlib.Core.Path.{ap, ◌∙◌}
use Rattle.rows.specs.Marks.{beat_of_mark}
use Rattle.rows.proofs.RowMarks.{mark-beat}
use Rattle.tidy_rows.proofs.allowed_on_row.Goals as goal

pub returns : goal.returns
returns c =
    let start = c in
    c.beat_of_mark.ensures ∙ ap beat_of_mark c.row_mark.ensures ∙ mark-beat start.args.beat start.requires
