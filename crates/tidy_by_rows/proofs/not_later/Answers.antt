-- `tidy_by_rows::not_later` compares the marks of the rows. Assumes nothing.
use mathlib.Core.Path.{◌≡◌, sym, ap₂, ◌∙◌}
use lib.Ieee.{binary64, lt}
use Rattle.tidy_by_rows.specs.ByMarks.{row_rises}
use Rattle.rows.specs.Rows.{row}
use Rattle.rows.proofs.RowMarks.{mark-order}
use Rattle.rows.proofs.RowWithin.{row_within, in_i32}
use Rattle.rows.proofs.RowKeys.{rows-below}
use Rattle.tidy_by_rows.proofs.not_later.Goals as goal
use Rattle.tidy_by_rows.proofs.not_later.Goals.{After-row_mark-2}

by-marks : (c : After-row_mark-2) → lt c.row_mark.result c.row_mark-2.result ≡ row_rises c.args.beat c.args.next
by-marks c =
    let start = c in
    let one = start.args.beat in
    let other = start.args.next in
    ap₂ lt c.row_mark.ensures c.row_mark-2.ensures
    ∙ mark-order one other start.requires.0 start.requires.1
    ∙ rows-below (row binary64 one) (row binary64 other) (in_i32 (row binary64 one) (row_within binary64 one start.requires.0)) (in_i32 (row binary64 other) (row_within binary64 other start.requires.1))

pub returns-then-row_mark : goal.returns-then-row_mark
returns-then-row_mark c = rw (sym (by-marks (goal.at.returns-then-row_mark c).After-row_mark-2) ∙ c.if-row_mark.true)

pub returns-else-row_mark : goal.returns-else-row_mark
returns-else-row_mark c = rw (sym (by-marks (goal.at.returns-else-row_mark c).After-row_mark-2) ∙ c.if-row_mark.false)
