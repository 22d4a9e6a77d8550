-- `clock_bench::run_down` runs down the list, event by event. Assumes nothing.
use Rattle.clock_bench.proofs.RunsOn.{RunTo}
use Rattle.clock_bench.proofs.run_down.Given as goal

abbrev pub invariant-loop-i : goal.invariant-loop-i
invariant-loop-i l = RunTo l.asked l.initial.at l.laid l.rows l.kinds l.numbers l.at l.i
