-- `clock_bench::next_head` meets its contract. Assumes nothing.
use Rattle.clock_bench.specs.EventList.{next_head}
use Rattle.clock_bench.proofs.next_head.Goals as goal

pub returns : goal.returns
unfolding next_head
returns c = rw (← c.or_end-end.ensures, ← c.or_entry-tempo.ensures, ← c.or_entry-delay.ensures, ← c.or_entry-stop.ensures) c.or_entry.ensures
