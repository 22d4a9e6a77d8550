-- `lookup_checked::row_as_f32` makes the row's pattern of its key. Assumes nothing.
use mir.Syntax.{w32}
use mir.ValLaws.{to_z-of_z}
use Rattle.lookup_checked.proofs.RowByPattern.{key_above, row_number, row_by_pattern}
use borrow.Author.Rules.{rules}
use Rattle.lookup_checked.proofs.row_as_f32.Goals as goal

pub overflow_sub-result : goal.overflow_sub-result
overflow_sub-result c = let start = c in rw (c.key_of_row.ensures, to_z-of_z w32 start.args.row start.ranges.row) (key_above start.args.row start.requires)

pub float_from_bits-result : goal.float_from_bits-result
float_from_bits-result c = let start = c in rw (c.key_of_row.ensures, to_z-of_z w32 start.args.row start.ranges.row) (row_number start.args.row start.requires)

pub returns : goal.returns
returns c = let start = c in rw (c.key_of_row.ensures, to_z-of_z w32 start.args.row start.ranges.row) (row_by_pattern start.args.row start.requires)
