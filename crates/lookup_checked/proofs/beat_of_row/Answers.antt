-- `lookup_checked::beat_of_row` divides the row by 48. Assumes nothing.
use mir.Syntax.{w32}
use mir.ValLaws.{to_z-of_z}
use borrow.Author.Rules.{rules}
use Rattle.lookup_checked.proofs.beat_of_row.Goals as goal

pub row_as_f32-requires : goal.row_as_f32-requires
row_as_f32-requires c = rw (to_z-of_z w32 c.args.row c.ranges.row) c.requires

pub returns : goal.returns
returns c = rw (c.row_as_f32.ensures, to_z-of_z w32 c.args.row c.ranges.row)
