use Rattle.process_sm_machine.specs.Machine.{fits}
use Rattle.process_sm_walk.proofs.EveryFrom.{SoFar}
use Rattle.process_sm_walk.proofs.all_fit.Given as goal

abbrev pub invariant-loop-i : goal.invariant-loop-i
invariant-loop-i l = SoFar fits l.tempos l.from l.i l.so_far
