use Rattle.process_sm_machine.specs.Machine.{close_by_stop}
use Rattle.process_sm_machine.proofs.close_by_stop.Goals as goal

pub returns : goal.returns
unfolding close_by_stop
returns c = rw (c.tempo_after-wrote_tempo.ensures, c.warp_over-wrote_warp.ensures, c.entry_at-wrote_stop.ensures)
