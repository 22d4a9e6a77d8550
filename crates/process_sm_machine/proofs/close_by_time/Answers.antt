use Rattle.process_sm_machine.specs.Machine.{close_by_time}
use Rattle.process_sm_machine.proofs.close_by_time.Goals as goal

pub returns : goal.returns
unfolding close_by_time
returns c = rw (c.tempo_after-wrote_tempo.ensures, c.warp_over-wrote_warp.ensures)
