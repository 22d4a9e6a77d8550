-- `clock::Cursor::soon` is a walk that is soon over, of a cursor that is not refused, where it says that it is whole. Assumes nothing.
use Rattle.rows.proofs.BackFromBits.{back}
use Rattle.rows.proofs.RowOrder.{no}
use borrow.Author.Rules.{rules}
use Rattle.clock.proofs.Cursor.soon.Goals as goal

pub returns-then-is_near : goal.returns-then-is_near
returns-then-is_near c =
    let s = c in
    let is = back s.args.row s.ranges.row in
    let near = rw is at (c.is_near.ensures c.if-is_near.true) in
    λ e. (near, rw is at c.walk_soon.ensures)

pub returns : goal.returns
returns c = λ e. no e
