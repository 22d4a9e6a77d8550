-- `process_ssc::beat_goes` is 1 for a beat that goes. Assumes nothing.
use lib.Ieee.{of_bits}
use Rattle.process_ssc.specs.inside.Tests.{beat_stays}
use Rattle.process_ssc.proofs.beat_goes.Goals as goal

pub returns-then-beat-2 : goal.returns-then-beat-2
unfolding beat_stays of_bits
returns-then-beat-2 c = rw (c.if-beat.true, c.if-beat-2.true)

pub returns-then-beat : goal.returns-then-beat
unfolding beat_stays of_bits
returns-then-beat c = rw (c.if-beat.true, c.if-beat-2.false)

pub returns : goal.returns
unfolding beat_stays of_bits
returns c = rw c.if-beat.false
