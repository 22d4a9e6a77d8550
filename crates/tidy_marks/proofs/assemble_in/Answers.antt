-- `tidy_marks::assemble_in` tidies marks with quantised beats. Assumes nothing.
use mathlib.Core.Path.{sym, ◌∙◌}
use Rattle.rows.specs.Rows.{quantized}
use Rattle.columns.proofs.LaidEach.{laid-all}
use Rattle.tidy_marks.proofs.assemble_in.Goals as goal

pub returns : goal.returns
returns c =
    let start = c in
    let quantised = c.quantize_column.ensures ∙ laid-all quantized start.args.beats.now start.args.quantised.now (sym start.requires) in
    rw quantised at c.tidy_marks.ensures
