-- `assembly_rows::change_column` quantises a column, or copies it. Assumes nothing.
use borrow.Author.Rules.{rules}
use Rattle.assembly_rows.proofs.change_column.Goals as goal

pub returns-in-Lengths : goal.returns-in-Lengths
returns-in-Lengths c = rw c.in-Lengths.is c.quantize_column.ensures

pub returns-in-Values : goal.returns-in-Values
returns-in-Values c = rw c.in-Values.is c.copy.ensures
