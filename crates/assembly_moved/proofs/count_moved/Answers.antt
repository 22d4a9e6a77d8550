-- `assembly_moved::count_moved` counts nothing where no beat is off the grid, and else each entry. Assumes nothing.
use Rattle.std.proofs.Common.{sym}
use Rattle.assembly_moved.proofs.NoneOff.{none-moved}
use Rattle.assembly_moved.proofs.count_moved.Goals as goal

pub returns-then-none_off : goal.returns-then-none_off
returns-then-none_off c =
    let given = c.args in
    sym (none-moved given.format given.beats.now given.values.now (c.none_off.ensures c.if-none_off.true))
