use Rattle.process_sm_machine.specs.Machine.{finish}
use Rattle.process_sm_machine.proofs.finish.Goals as goal

pub returns-in-Closed : goal.returns-in-Closed
unfolding finish
returns-in-Closed c = rw c.in-Closed.is c.still.ensures

pub returns-in-Open : goal.returns-in-Open
unfolding finish
returns-in-Open c = rw c.in-Open.is c.finish_warp.ensures
