use Rattle.process_sm_walk.specs.Walking.{is_number}
use Rattle.process_sm_walk.proofs.EveryFrom.{SoFar}
use Rattle.process_sm_walk.proofs.all_numbers.Given as goal

abbrev pub invariant-loop-value : goal.invariant-loop-value
invariant-loop-value l = SoFar is_number l.values 0 l.value-index l.so_far
