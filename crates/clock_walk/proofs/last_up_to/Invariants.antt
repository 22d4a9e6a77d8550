-- `clock_walk::last_up_to` meets its contract. Assumes nothing.
use Rattle.clock_walk.proofs.LastUpTo.{Finding}
use Rattle.clock_walk.proofs.last_up_to.Given as goal

abbrev pub invariant-loop-i : goal.invariant-loop-i
invariant-loop-i l = Finding l.beat l.other l.tempo_beats l.tempo_values l.tempo l.i
