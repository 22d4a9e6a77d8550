-- `process_ssc::values_stay` counts the values that go, and there are none. Assumes nothing.
use Rattle.limits.proofs.Every.{Counted}
use Rattle.process_ssc.specs.inside.Tests.{value_stays}
use Rattle.process_ssc.proofs.values_stay.Given as goal

abbrev pub invariant-loop-value : goal.invariant-loop-value
invariant-loop-value l = Counted value_stays l.values l.value-index l.gone
