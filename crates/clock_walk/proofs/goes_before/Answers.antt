-- `clock_walk::goes_before` is `goes_before`. Assumes nothing.
use Rattle.std.proofs.Common.{true, false, w32, SFits}
use Rattle.clock_walk.specs.Events.{goes_before}
use Rattle.rows.proofs.BackFromBits.{tested}
use Rattle.clock_walk.proofs.goes_before.Goals as goal

pub returns-then-row-asked : goal.returns-then-row-asked
unfolding goes_before
returns-then-row-asked c =
    let s = c in
    let a = s.args in
    rw (tested a.next.row a.asked (record { sfits = c.struct_told-1.given.0.1 }) s.ranges.asked true c.if-row-asked.true)

pub returns-then-asked-row : goal.returns-then-asked-row
unfolding goes_before
returns-then-asked-row c =
    let s = c in
    let a = s.args in
    let f : SFits w32 a.next.row = record { sfits = c.struct_told-1.given.0.1 } in
    rw (tested a.next.row a.asked f s.ranges.asked false c.if-row-asked.false, tested a.asked a.next.row s.ranges.asked f true c.if-asked-row.true)

pub returns : goal.returns
unfolding goes_before
returns c =
    let s = c in
    let a = s.args in
    let f : SFits w32 a.next.row = record { sfits = c.struct_told-1.given.0.1 } in
    rw (tested a.next.row a.asked f s.ranges.asked false c.if-row-asked.false, tested a.asked a.next.row s.ranges.asked f false c.if-asked-row.false) c.goes_first.ensures
