-- `tidy_marks::assemble_marks` lends a part of an array, which is no shorter than the list. Assumes nothing.
use mathlib.Core.Path.{sym}
use native.Mathlib.Omega.{arith}
use lib.Seq.{length-take-le}
use Rattle.tidy_marks.proofs.TooLong.{too_long}
use Rattle.tidy_marks.proofs.assemble_marks.Goals as goal

pub slice_bounds-assemble_in-end : goal.slice_bounds-assemble_in-end
slice_bounds-assemble_in-end c = sym (length-take-le _ _ c.if-n-le-FEW.true)

pub assemble_in-requires : goal.assemble_in-requires
assemble_in-requires c = length-take-le _ _ c.if-n-le-FEW.true

pub slice_bounds-assemble_in-end-then-n-le-MOST_ENTRIES : goal.slice_bounds-assemble_in-end-then-n-le-MOST_ENTRIES
slice_bounds-assemble_in-end-then-n-le-MOST_ENTRIES c = sym (length-take-le _ _ c.if-n-le-MOST_ENTRIES.true)

pub assemble_in-requires-then-n-le-MOST_ENTRIES : goal.assemble_in-requires-then-n-le-MOST_ENTRIES
assemble_in-requires-then-n-le-MOST_ENTRIES c = length-take-le _ _ c.if-n-le-MOST_ENTRIES.true

pub returns : goal.returns
returns c =
    let start = c in
    rw c.refused.ensures (too_long start.args.beats.now start.args.marks.now (omega (arith, c.if-n-le-MOST_ENTRIES.false)) start.args.out.now)
