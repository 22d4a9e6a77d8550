-- `tidy_marks::tidy_in` tidies marks as numbers, and reads them back. Assumes nothing.
use Prim.Native.Nat.{◌≤◌}
use mathlib.Core.Path.{◌≡◌, sym, ◌∙◌}
use mathlib.Core.List.{map}
use lib.ListN.{length}
use lib.Seq.{length-take-le}
use Rattle.columns.proofs.LaidEach.{laid-all}
use Rattle.tidy_marks.specs.inside.MarkNumbers.{mark_number}
use Rattle.tidy_marks.proofs.MarkedTaken.{MarkedList, marked-list}
use Rattle.tidy_marks.proofs.TidiedMarks.{room_for_numbers, marks-laid, marks_unfit}
use Rattle.tidy_marks.proofs.tidy_in.Goals as goal
use Rattle.tidy_marks.proofs.tidy_in.Goals.{After-tidy_row_segments-tidied, Start}

-- ---- once they are tidied
abbrev start : After-tidy_row_segments-tidied → Start
start c = (goal.at.After-tidy_row_segments-tidied c).Start

listed : (c : After-tidy_row_segments-tidied) → MarkedList (start c).args.beats.now (start c).args.marks.now
listed c = marked-list (start c).args.beats.now (start c).args.marks.now (start c).requires.marks_value

numbered : (c : After-tidy_row_segments-tidied) → c.to_numbers.new.to ≡ map mark_number (start c).args.marks.now
numbered c =
    c.to_numbers.ensures
    ∙ laid-all mark_number (start c).args.marks.now (start c).args.numbers.now (sym (listed c).even ∙ sym (start c).requires.numbers_len.0)

in-numbers : (c : After-tidy_row_segments-tidied) → c.tidy_row_segments-tidied.result.count ≤ length c.tidy_row_segments-tidied.new.out_values
in-numbers c =
    room_for_numbers (start c).args.beats.now (start c).args.marks.now (listed c) (numbered c) (start c).requires.numbers_len.1 (start c).requires.numbers_len.2 c.tidy_row_segments-tidied.ensures

pub returns-then-n-out : goal.returns-then-n-out
returns-then-n-out c =
    rw c.refused.ensures (marks_unfit (start (goal.at.returns-then-n-out c).After-tidy_row_segments-tidied).args.beats.now (start (goal.at.returns-then-n-out c).After-tidy_row_segments-tidied).args.marks.now (listed (goal.at.returns-then-n-out c).After-tidy_row_segments-tidied) (numbered (goal.at.returns-then-n-out c).After-tidy_row_segments-tidied) (start (goal.at.returns-then-n-out c).After-tidy_row_segments-tidied).requires.numbers_len.1 (start (goal.at.returns-then-n-out c).After-tidy_row_segments-tidied).requires.numbers_len.2 c.tidy_row_segments-tidied.ensures (start (goal.at.returns-then-n-out c).After-tidy_row_segments-tidied).args.out.now c.if-n-out.true)

pub slice_bounds-to_marks-end : goal.slice_bounds-to_marks-end
slice_bounds-to_marks-end c = in-numbers (goal.at.slice_bounds-to_marks-end c).After-tidy_row_segments-tidied

pub slice_bounds-to_marks-end-2 : goal.slice_bounds-to_marks-end-2
slice_bounds-to_marks-end-2 c = sym (length-take-le _ _ (in-numbers (goal.at.slice_bounds-to_marks-end-2 c).After-tidy_row_segments-tidied))

pub returns : goal.returns
returns c =
    let at = c in
    marks-laid (start (goal.at.returns at).After-tidy_row_segments-tidied).args.beats.now (start (goal.at.returns at).After-tidy_row_segments-tidied).args.marks.now (listed (goal.at.returns at).After-tidy_row_segments-tidied) (numbered (goal.at.returns at).After-tidy_row_segments-tidied) (start (goal.at.returns at).After-tidy_row_segments-tidied).requires.numbers_len.1 (start (goal.at.returns at).After-tidy_row_segments-tidied).requires.numbers_len.2 at.tidy_row_segments-tidied.ensures c.if-n-out.false c.to_marks.ensures
