-- `assembly_rows::change_column_f32` quantises a column, or narrows it. Assumes nothing.
use mathlib.Core.Path.{sym, ◌∙◌}
use Rattle.assembly_rows.proofs.RisingRows.{each-quantized}
use borrow.Author.Rules.{rules}
use Rattle.assembly_rows.proofs.change_column_f32.Goals as goal

pub returns-in-Lengths : goal.returns-in-Lengths
returns-in-Lengths c = rw c.in-Lengths.is (c.quantize_column_f32.ensures ∙ sym (each-quantized c.args.from.now c.args.to.now))

pub returns-in-Values : goal.returns-in-Values
returns-in-Values c = rw c.in-Values.is c.narrow_column.ensures
