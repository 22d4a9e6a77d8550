use Rattle.process_sm_machine.specs.Machine.{meet_stop}
use Rattle.process_sm_machine.proofs.meet_stop.Goals as goal

pub returns-in-Closed : goal.returns-in-Closed
unfolding meet_stop
returns-in-Closed c = rw c.in-Closed.is c.stop_outside.ensures

pub returns-in-Open : goal.returns-in-Open
unfolding meet_stop
returns-in-Open c = rw c.in-Open.is c.stop_in_warp.ensures
