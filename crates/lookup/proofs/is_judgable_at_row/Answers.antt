-- `lookup::is_judgable_at_row` answers what the definition gives, or the number that refuses. Assumes nothing.
use Rattle.std.proofs.Common.{w32}
use mir.ValLaws.{to_z-of_z}
use Rattle.lookup.proofs.is_judgable_at_row.Goals as goal

pub returns : goal.returns
returns c =
    let start = c in
    rw (c.look_up_judgable.ensures, c.row_taken.ensures, to_z-of_z w32 start.args.row start.ranges.row)
