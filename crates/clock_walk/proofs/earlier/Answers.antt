-- `clock_walk::earlier` meets its contract. Assumes nothing.
use Rattle.std.proofs.Common.{true, false}
use Rattle.clock_walk.specs.Events.{sooner}
use Rattle.clock_walk.specs.Heads.{sooner_head}
use Rattle.rows.proofs.BackFromBits.{back, tested}
use Rattle.clock_walk.proofs.earlier.Goals as goal

pub returns-then-row-found : goal.returns-then-row-found
unfolding sooner_head sooner
returns-then-row-found c =
    let a = c.args in
    rw (
      back a.row c.ranges.row,
      tested a.row a.best.row c.ranges.row (record { sfits = c.struct_told-1.given.0.1 }) true c.if-row-found.true,
    )

pub returns : goal.returns
unfolding sooner_head sooner
returns c =
    let a = c.args in
    rw (tested a.row a.best.row c.ranges.row (record { sfits = c.struct_told-1.given.0.1 }) false c.if-row-found.false)
