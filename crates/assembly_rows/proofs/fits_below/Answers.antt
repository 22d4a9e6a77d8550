-- `assembly_rows::fits_below` has the list assembled in rooms of its own. Assumes nothing.
use mathlib.Core.Path.{sym, ap, ◌∙◌}
use native.Mathlib.Omega.{arith}
use lib.Seq.{length-take-le}
use Rattle.assembly_rows.proofs.Outcomes.{fits_by_call}
use borrow.Author.Rules.{rules}
use Rattle.assembly_rows.proofs.fits_below.Goals as goal

pub slice_bounds-assemble_rows-end : goal.slice_bounds-assemble_rows-end
slice_bounds-assemble_rows-end c = sym (length-take-le _ _ (omega (arith, c.requires)))

pub slice_bounds-assemble_rows-end-2 : goal.slice_bounds-assemble_rows-end-2
slice_bounds-assemble_rows-end-2 c = sym (length-take-le _ _ (omega (arith, c.requires)))

pub returns : goal.returns
returns c = let given = c.args in
    fits_by_call given.meaning given.beats.now given.values.now given.room c.requires.0 (length-take-le _ _ (omega (arith, c.requires))) (length-take-le _ _ (omega (arith, c.requires))) c.assemble_rows-outcome.ensures
