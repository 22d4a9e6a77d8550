-- `assembly_scrolls::assemble_many` lends parts of three arrays. Assumes nothing.
use mathlib.Core.Path.{sym}
use lib.Seq.{length-take-le}
use borrow.Author.Rules.{rules}
use Rattle.assembly_scrolls.proofs.assemble_many.Goals as goal

pub slice_bounds-assemble_in-end : goal.slice_bounds-assemble_in-end
slice_bounds-assemble_in-end c = sym (length-take-le _ _ c.requires)

pub slice_bounds-assemble_in-end-2 : goal.slice_bounds-assemble_in-end-2
slice_bounds-assemble_in-end-2 c = sym (length-take-le _ _ c.requires)

pub slice_bounds-assemble_in-end-3 : goal.slice_bounds-assemble_in-end-3
slice_bounds-assemble_in-end-3 c = sym (length-take-le _ _ c.requires)

pub assemble_in-requires : goal.assemble_in-requires
assemble_in-requires c = (length-take-le _ _ c.requires, length-take-le _ _ c.requires, length-take-le _ _ c.requires)

pub returns : goal.returns
returns c = c.assemble_in.ensures
