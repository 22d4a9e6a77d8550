use Rattle.process_sm_walk.specs.inside.NoWarp.{is_pause}
use Rattle.process_sm_walk.proofs.EveryFrom.{SoFar}
use Rattle.process_sm_walk.proofs.all_pause.Given as goal

abbrev pub invariant-loop-i : goal.invariant-loop-i
invariant-loop-i l = SoFar is_pause l.stops l.from l.i l.so_far
