-- `tidy_warps::tidy_warp_segments` lends parts of three arrays, which are no shorter than the list. Assumes nothing.
use Prim.Native.Nat.{◌≤◌}
use mathlib.Core.Path.{◌≡◌, sym, ap₂, ◌∙◌}
use lib.ListN.{length}
use lib.Seq.{length-take-le}
use Rattle.limits.specs.Refusals.{lower}
use Rattle.tidy_warps.specs.WarpTidying.{marked_warps_number}
use Rattle.tidy_warps.proofs.MarkedTaken.{list-passed}
use Rattle.tidy_warps.proofs.Outcomes.{refused_by_tests}
use Rattle.tidy_warps.proofs.tidy_warp_segments.Goals as goal
use Rattle.tidy_warps.proofs.tidy_warp_segments.Goals.{After-lower_of-number, Else-number-ne-TAKEN, Start}

-- ---- the number, and where it is none
abbrev start : After-lower_of-number → Start
start c = (goal.at.After-lower_of-number c).Start

number : (c : After-lower_of-number) → c.lower_of-number.result ≡ marked_warps_number (start c).args.beats.now (start c).args.lengths.now (start c).args.marks.now
number c = c.lower_of-number.ensures ∙ ap₂ lower c.list_number-list.ensures c.marks_number.ensures

taken : (c : Else-number-ne-TAKEN) → marked_warps_number (start (goal.at.Else-number-ne-TAKEN c).After-lower_of-number).args.beats.now (start (goal.at.Else-number-ne-TAKEN c).After-lower_of-number).args.lengths.now (start (goal.at.Else-number-ne-TAKEN c).After-lower_of-number).args.marks.now ≡ 0
taken c = sym (number (goal.at.Else-number-ne-TAKEN c).After-lower_of-number) ∙ c.if-number-ne-TAKEN.false

short : (c : Else-number-ne-TAKEN) → length (start (goal.at.Else-number-ne-TAKEN c).After-lower_of-number).args.beats.now ≤ 1024
short c = let given = (start (goal.at.Else-number-ne-TAKEN c).After-lower_of-number).args in (list-passed given.beats.now given.lengths.now given.marks.now (taken c)).few

pub returns-then-number-ne-TAKEN : goal.returns-then-number-ne-TAKEN
returns-then-number-ne-TAKEN c =
    let at = c in
    let given = (start (goal.at.returns-then-number-ne-TAKEN at).After-lower_of-number).args in
    rw c.refused.ensures
    (refused_by_tests given.beats.now given.lengths.now given.marks.now given.out_beats.now given.out_lengths.now given.out_marks.now at.lower_of-number.result (number (goal.at.returns-then-number-ne-TAKEN at).After-lower_of-number) c.if-number-ne-TAKEN.true)

pub slice_bounds-tidy_in-end : goal.slice_bounds-tidy_in-end
slice_bounds-tidy_in-end c = sym (length-take-le _ _ c.if-n-le-FEW.true)

pub slice_bounds-tidy_in-end-then-n-le-FEW : goal.slice_bounds-tidy_in-end-then-n-le-FEW
slice_bounds-tidy_in-end-then-n-le-FEW c = sym (length-take-le _ _ c.if-n-le-FEW.true)

pub slice_bounds-tidy_in-end-then-n-le-FEW-2 : goal.slice_bounds-tidy_in-end-then-n-le-FEW-2
slice_bounds-tidy_in-end-then-n-le-FEW-2 c = sym (length-take-le _ _ c.if-n-le-FEW.true)

pub tidy_in-requires : goal.tidy_in-requires
tidy_in-requires c =
    let h = c.if-n-le-FEW.true in
    record {
      marks_value = taken (goal.at.tidy_in-requires c).Else-number-ne-TAKEN;
      numbers_len = (length-take-le _ _ h, length-take-le _ _ h, length-take-le _ _ h);
    }

pub slice_bounds-numbers-end-2 : goal.slice_bounds-numbers-end-2
slice_bounds-numbers-end-2 c = short (goal.at.slice_bounds-numbers-end-2 c).Else-number-ne-TAKEN

pub slice_bounds-tidy_in-end-2 : goal.slice_bounds-tidy_in-end-2
slice_bounds-tidy_in-end-2 c = sym (length-take-le _ _ (short (goal.at.slice_bounds-tidy_in-end-2 c).Else-number-ne-TAKEN))

pub slice_bounds-tidied-end-2 : goal.slice_bounds-tidied-end-2
slice_bounds-tidied-end-2 c = short (goal.at.slice_bounds-tidied-end-2 c).Else-number-ne-TAKEN

pub slice_bounds-tidy_in-end-3 : goal.slice_bounds-tidy_in-end-3
slice_bounds-tidy_in-end-3 c = sym (length-take-le _ _ (short (goal.at.slice_bounds-tidy_in-end-3 c).Else-number-ne-TAKEN))

pub slice_bounds-kept-end-2 : goal.slice_bounds-kept-end-2
slice_bounds-kept-end-2 c = short (goal.at.slice_bounds-kept-end-2 c).Else-number-ne-TAKEN

pub slice_bounds-tidy_in-end-4 : goal.slice_bounds-tidy_in-end-4
slice_bounds-tidy_in-end-4 c = sym (length-take-le _ _ (short (goal.at.slice_bounds-tidy_in-end-4 c).Else-number-ne-TAKEN))

pub tidy_in-requires-2 : goal.tidy_in-requires-2
tidy_in-requires-2 c =
    let h = short (goal.at.tidy_in-requires-2 c).Else-number-ne-TAKEN in
    record {
      marks_value = taken (goal.at.tidy_in-requires-2 c).Else-number-ne-TAKEN;
      numbers_len = (length-take-le _ _ h, length-take-le _ _ h, length-take-le _ _ h);
    }
