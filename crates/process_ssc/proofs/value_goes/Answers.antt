-- `process_ssc::value_goes` is 1 for a value that goes. Assumes nothing.
use lib.Ieee.{of_bits}
use Rattle.process_ssc.specs.inside.Tests.{value_stays}
use Rattle.process_ssc.proofs.value_goes.Goals as goal

pub returns-then-value-2 : goal.returns-then-value-2
unfolding value_stays of_bits
returns-then-value-2 c = rw (c.if-value.true, c.if-value-2.true)

pub returns-then-value : goal.returns-then-value
unfolding value_stays of_bits
returns-then-value c = rw (c.if-value.true, c.if-value-2.false)

pub returns : goal.returns
unfolding value_stays of_bits
returns c = rw c.if-value.false
