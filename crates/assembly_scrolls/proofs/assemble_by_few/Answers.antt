-- `assembly_scrolls::assemble_by_few` lends a part of an array. Assumes nothing.
use native.Mathlib.Omega.{arith}
use mathlib.Core.Path.{sym}
use lib.Seq.{length-take-le}
use borrow.Author.Rules.{rules}
use Rattle.assembly_scrolls.proofs.assemble_by_few.Goals as goal

pub slice_bounds-assemble_by-end : goal.slice_bounds-assemble_by-end
slice_bounds-assemble_by-end c = sym (length-take-le _ _ c.requires.0)

pub assemble_by-requires : goal.assemble_by-requires
assemble_by-requires c = (omega (arith, c.requires.0), c.requires.1, length-take-le _ _ c.requires.0)

pub returns : goal.returns
returns c =
    let given = c.assemble_by.ensures in
    record {
      scrolls_untested = given.scrolls_untested;
      moved_value = given.moved_value;
    }
