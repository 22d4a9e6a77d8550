-- `tidy_marks::tidy_marks` lends parts of three arrays, which are no shorter than the list. Assumes nothing.
use Prim.Native.Nat.{◌≤◌}
use mathlib.Core.Path.{◌≡◌, sym, ◌∙◌}
use lib.ListN.{length}
use lib.Seq.{length-take-le}
use Rattle.tidy_marks.specs.MarkTidying.{marked_number}
use Rattle.tidy_marks.proofs.MarkedTaken.{marked-list}
use Rattle.tidy_marks.proofs.TidiedMarks.{marks-refused}
use Rattle.tidy_marks.proofs.tidy_marks.Goals as goal
use Rattle.tidy_marks.proofs.tidy_marks.Goals.{Else-number-ne-TAKEN, Start}

-- ---- where the tests have passed
abbrev start : Else-number-ne-TAKEN → Start
start c = (goal.at.Else-number-ne-TAKEN c).Start

taken : (c : Else-number-ne-TAKEN) → marked_number (start c).args.beats.now (start c).args.marks.now ≡ 0
taken c = sym c.marked_number-number.ensures ∙ c.if-number-ne-TAKEN.false

short : (c : Else-number-ne-TAKEN) → length (start c).args.beats.now ≤ 1024
short c = (marked-list (start c).args.beats.now (start c).args.marks.now (taken c)).few

pub returns-then-number-ne-TAKEN : goal.returns-then-number-ne-TAKEN
returns-then-number-ne-TAKEN c =
    let start = c in
    rw c.refused.ensures
    (marks-refused start.args.beats.now start.args.marks.now start.args.out.now c.marked_number-number.result c.marked_number-number.ensures c.if-number-ne-TAKEN.true)

pub slice_bounds-tidy_in-end : goal.slice_bounds-tidy_in-end
slice_bounds-tidy_in-end c = sym (length-take-le _ _ c.if-n-le-FEW.true)

pub slice_bounds-tidy_in-end-then-n-le-FEW : goal.slice_bounds-tidy_in-end-then-n-le-FEW
slice_bounds-tidy_in-end-then-n-le-FEW c = sym (length-take-le _ _ c.if-n-le-FEW.true)

pub slice_bounds-tidy_in-end-then-n-le-FEW-2 : goal.slice_bounds-tidy_in-end-then-n-le-FEW-2
slice_bounds-tidy_in-end-then-n-le-FEW-2 c = sym (length-take-le _ _ c.if-n-le-FEW.true)

pub tidy_in-requires : goal.tidy_in-requires
tidy_in-requires c =
    let h = c.if-n-le-FEW.true in
    record {
      marks_value = taken (goal.at.tidy_in-requires c).Else-number-ne-TAKEN;
      numbers_len = (length-take-le _ _ h, length-take-le _ _ h, length-take-le _ _ h);
    }

pub returns-then-n-le-FEW : goal.returns-then-n-le-FEW
returns-then-n-le-FEW c = c.tidy_in.ensures

pub slice_bounds-numbers-end-2 : goal.slice_bounds-numbers-end-2
slice_bounds-numbers-end-2 c = short (goal.at.slice_bounds-numbers-end-2 c).Else-number-ne-TAKEN

pub slice_bounds-tidy_in-end-2 : goal.slice_bounds-tidy_in-end-2
slice_bounds-tidy_in-end-2 c = sym (length-take-le _ _ (short (goal.at.slice_bounds-tidy_in-end-2 c).Else-number-ne-TAKEN))

pub slice_bounds-tidy_beats-end-2 : goal.slice_bounds-tidy_beats-end-2
slice_bounds-tidy_beats-end-2 c = short (goal.at.slice_bounds-tidy_beats-end-2 c).Else-number-ne-TAKEN

pub slice_bounds-tidy_in-end-3 : goal.slice_bounds-tidy_in-end-3
slice_bounds-tidy_in-end-3 c = sym (length-take-le _ _ (short (goal.at.slice_bounds-tidy_in-end-3 c).Else-number-ne-TAKEN))

pub slice_bounds-tidy_numbers-end-2 : goal.slice_bounds-tidy_numbers-end-2
slice_bounds-tidy_numbers-end-2 c = short (goal.at.slice_bounds-tidy_numbers-end-2 c).Else-number-ne-TAKEN

pub slice_bounds-tidy_in-end-4 : goal.slice_bounds-tidy_in-end-4
slice_bounds-tidy_in-end-4 c = sym (length-take-le _ _ (short (goal.at.slice_bounds-tidy_in-end-4 c).Else-number-ne-TAKEN))

pub tidy_in-requires-2 : goal.tidy_in-requires-2
tidy_in-requires-2 c =
    let h = short (goal.at.tidy_in-requires-2 c).Else-number-ne-TAKEN in
    record {
      marks_value = taken (goal.at.tidy_in-requires-2 c).Else-number-ne-TAKEN;
      numbers_len = (length-take-le _ _ h, length-take-le _ _ h, length-take-le _ _ h);
    }

pub returns : goal.returns
returns c = c.tidy_in-2.ensures
