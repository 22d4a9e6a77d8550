-- `process_ssc::beats_stay` counts the beats that go, and there are none. Assumes nothing.
use Rattle.limits.proofs.Every.{Counted}
use Rattle.process_ssc.specs.inside.Tests.{beat_stays}
use Rattle.process_ssc.proofs.beats_stay.Given as goal

abbrev pub invariant-loop-beat : goal.invariant-loop-beat
invariant-loop-beat l = Counted beat_stays l.beats l.beat-index l.gone
