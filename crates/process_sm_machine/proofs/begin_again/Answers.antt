use Rattle.process_sm_machine.specs.Machine.{begin_again}
use Rattle.process_sm_machine.proofs.begin_again.Goals as goal

pub returns : goal.returns
unfolding begin_again
returns c = rw (c.warp_over-wrote_warp.ensures, c.entry_at-wrote_stop.ensures)
