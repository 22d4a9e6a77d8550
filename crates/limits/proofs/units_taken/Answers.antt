-- `limits::units_taken` counts the numbers of a column that are no units, and there are none. Assumes nothing.
use Rattle.limits.specs.Numbers.{is_unit}
use Rattle.limits.proofs.Every.{counted-turn, counted-end}
use Rattle.limits.proofs.units_taken.Goals as goal

pub loop-unit-preserved : goal.loop-unit-preserved
loop-unit-preserved c = counted-turn is_unit c.one_no_unit-outside.result 0 c.loop-unit-test.true c.one_no_unit-outside.ensures c.loop-unit.invariant

pub returns : goal.returns
returns c = counted-end is_unit c.loop-unit-test.false c.loop-unit.invariant
