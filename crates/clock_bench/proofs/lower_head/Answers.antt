-- `clock_bench::lower_head` meets its contract. Assumes nothing.
use Rattle.std.proofs.Common.{true, false}
use Rattle.rows.proofs.BackFromBits.{back, tested}
use Rattle.clock_bench.specs.EventList.{lower_head}
use Rattle.clock_bench.proofs.lower_head.Goals as goal

pub returns-then-row-found : goal.returns-then-row-found
unfolding lower_head
returns-then-row-found c =
    let a = c.args in
    rw (back a.row c.ranges.row, tested a.row a.best.row c.ranges.row (record { sfits = c.struct_told-1.given.0.1 }) true c.if-row-found.true)

pub returns : goal.returns
unfolding lower_head
returns c =
    let a = c.args in
    rw (tested a.row a.best.row c.ranges.row (record { sfits = c.struct_told-1.given.0.1 }) false c.if-row-found.false)
