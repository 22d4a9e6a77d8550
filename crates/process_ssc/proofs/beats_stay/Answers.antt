-- `process_ssc::beats_stay` counts the beats that go, and there are none. Assumes nothing.
use lib.Ieee.{nan}
use Rattle.limits.proofs.Every.{counted-turn, counted-end}
use Rattle.process_ssc.specs.inside.Tests.{beat_stays}
use Rattle.process_ssc.proofs.beats_stay.Goals as goal

pub loop-beat-preserved : goal.loop-beat-preserved
loop-beat-preserved c = counted-turn beat_stays c.beat_goes-gone.result nan c.loop-beat-test.true c.beat_goes-gone.ensures c.loop-beat.invariant

pub returns : goal.returns
returns c = counted-end beat_stays c.loop-beat-test.false c.loop-beat.invariant
