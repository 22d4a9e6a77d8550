-- `notes_displayed::count_each` lays the counts of all beats. Assumes nothing.
use Rattle.std.proofs.Common.{get_or, arith}
use lib.Ieee.{nan}
use Rattle.columns.proofs.LaidEach.{begun, turned, ended}
use Rattle.notes_displayed.proofs.ByCount.{found-few}
use Rattle.notes_displayed.proofs.count_each.Goals as goal

pub loop-i-init : goal.loop-i-init
loop-i-init c = begun (omega (arith, c.requires.1))

pub overflow_cast-numbers : goal.overflow_cast-numbers
overflow_cast-numbers c =
    omega (arith, c.count_up_to.ensures, found-few (get_or c.args.beats.now c.loop-i.i nan) c.args.scroll_beats.now, c.requires.0)

pub bounds-numbers-i : goal.bounds-numbers-i
bounds-numbers-i c =
    omega (arith, c.loop-i.invariant.long, c.requires.1, c.loop-i-test.true)

pub loop-i-preserved : goal.loop-i-preserved
loop-i-preserved c = turned c.loop-i.invariant nan c.loop-i-test.true c.count_up_to.ensures

pub shape_of-numbers : goal.shape_of-numbers
shape_of-numbers c = c.loop-i.invariant.long

pub returns : goal.returns
returns c = ended c.loop-i.invariant c.loop-i-test.false
