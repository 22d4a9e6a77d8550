-- `clock_bench::further_end` meets its contract. Assumes nothing.
use Rattle.clock_bench.specs.EventList.{further_end}
use Rattle.clock_bench.proofs.further_end.Goals as goal

pub returns-then-old-own : goal.returns-then-old-own
unfolding further_end
returns-then-old-own c = rw c.if-old-own.true

pub returns : goal.returns
unfolding further_end
returns c = rw c.if-old-own.false
