use Rattle.process_sm_machine.specs.Machine.{finish_warp}
use Rattle.process_sm_machine.proofs.finish_warp.Goals as goal

pub returns : goal.returns
unfolding finish_warp
returns c = rw (c.tempo_after-wrote_tempo.ensures, c.warp_over-wrote_warp.ensures, c.end_of-end.ensures)
