-- `assembly_speeds::assemble_any` lends parts of five arrays, which are no shorter than the list: of 64 entries where that is so, and else of 1,024. Assumes nothing.
use mathlib.Core.Path.{sym}
use lib.Seq.{length-take-le}
use borrow.Author.Rules.{rules}
use Rattle.assembly_speeds.proofs.assemble_any.Goals as goal

pub assemble_in-requires : goal.assemble_in-requires
assemble_in-requires c = let h = c.if-n-le-FEW.true in (length-take-le _ _ h, length-take-le _ _ h, length-take-le _ _ h, length-take-le _ _ h, length-take-le _ _ h)

pub assemble_in-requires-2 : goal.assemble_in-requires-2
assemble_in-requires-2 c = let h = c.requires in (length-take-le _ _ h, length-take-le _ _ h, length-take-le _ _ h, length-take-le _ _ h, length-take-le _ _ h)

pub slice_bounds-assemble_in-end : goal.slice_bounds-assemble_in-end
slice_bounds-assemble_in-end c = sym (length-take-le _ _ c.if-n-le-FEW.true)

pub slice_bounds-assemble_in-end-then-n-le-FEW : goal.slice_bounds-assemble_in-end-then-n-le-FEW
slice_bounds-assemble_in-end-then-n-le-FEW c = sym (length-take-le _ _ c.if-n-le-FEW.true)

pub slice_bounds-assemble_in-end-then-n-le-FEW-2 : goal.slice_bounds-assemble_in-end-then-n-le-FEW-2
slice_bounds-assemble_in-end-then-n-le-FEW-2 c = sym (length-take-le _ _ c.if-n-le-FEW.true)

pub slice_bounds-assemble_in-end-then-n-le-FEW-3 : goal.slice_bounds-assemble_in-end-then-n-le-FEW-3
slice_bounds-assemble_in-end-then-n-le-FEW-3 c = sym (length-take-le _ _ c.if-n-le-FEW.true)

pub slice_bounds-assemble_in-end-then-n-le-FEW-4 : goal.slice_bounds-assemble_in-end-then-n-le-FEW-4
slice_bounds-assemble_in-end-then-n-le-FEW-4 c = sym (length-take-le _ _ c.if-n-le-FEW.true)

pub returns-then-n-le-FEW : goal.returns-then-n-le-FEW
returns-then-n-le-FEW c = c.assemble_in.ensures

pub slice_bounds-assemble_in-end-2 : goal.slice_bounds-assemble_in-end-2
slice_bounds-assemble_in-end-2 c = sym (length-take-le _ _ c.requires)

pub slice_bounds-assemble_in-end-3 : goal.slice_bounds-assemble_in-end-3
slice_bounds-assemble_in-end-3 c = sym (length-take-le _ _ c.requires)

pub slice_bounds-assemble_in-end-4 : goal.slice_bounds-assemble_in-end-4
slice_bounds-assemble_in-end-4 c = sym (length-take-le _ _ c.requires)

pub slice_bounds-assemble_in-end-5 : goal.slice_bounds-assemble_in-end-5
slice_bounds-assemble_in-end-5 c = sym (length-take-le _ _ c.requires)

pub slice_bounds-assemble_in-end-6 : goal.slice_bounds-assemble_in-end-6
slice_bounds-assemble_in-end-6 c = sym (length-take-le _ _ c.requires)

pub returns : goal.returns
returns c = c.assemble_in-2.ensures
