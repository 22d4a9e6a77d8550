-- `process_ssc::values_stay` counts the values that go, and there are none. Assumes nothing.
use lib.Ieee.{nan}
use Rattle.limits.proofs.Every.{counted-turn, counted-end}
use Rattle.process_ssc.specs.inside.Tests.{value_stays}
use Rattle.process_ssc.proofs.values_stay.Goals as goal

pub loop-value-preserved : goal.loop-value-preserved
loop-value-preserved c = counted-turn value_stays c.value_goes-gone.result nan c.loop-value-test.true c.value_goes-gone.ensures c.loop-value.invariant

pub returns : goal.returns
returns c = counted-end value_stays c.loop-value-test.false c.loop-value.invariant
