-- `exports_lists::marrighentu_is_fake_at_row` answers what the call answers. Assumes nothing.
use mir.Syntax.{w32}
use mir.ValLaws.{to_z-of_z}
use borrow.Author.Rules.{rules}
use Rattle.exports_lists.proofs.marrighentu_is_fake_at_row.Goals as goal

pub returns : goal.returns
returns c =
    let start = c in
    rw (c.is_fake_at_row.ensures, to_z-of_z w32 start.args.row start.ranges.row)
