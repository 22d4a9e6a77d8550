-- `note_sheet::not_below` is 1 where the test fails. Assumes nothing.
use mathlib.Core.Bool.{true, false}
use Rattle.rows.proofs.BackFromBits.{tested}
use Rattle.note_sheet.proofs.not_below.Goals as goal

pub returns-then-row-next : goal.returns-then-row-next
returns-then-row-next c =
    let s = c in
    rw (tested s.args.row s.args.next s.ranges.row s.ranges.next true c.if-row-next.true)

pub returns-else-row-next : goal.returns-else-row-next
returns-else-row-next c =
    let s = c in
    rw (tested s.args.row s.args.next s.ranges.row s.ranges.next false c.if-row-next.false)
