use Rattle.process_sm_machine.specs.Machine.{pass}
use Rattle.process_sm_machine.proofs.pass.Goals as goal

pub returns-in-Closed : goal.returns-in-Closed
unfolding pass
returns-in-Closed c = rw c.in-Closed.is c.still.ensures

pub returns-in-Open : goal.returns-in-Open
unfolding pass
returns-in-Open c = rw c.in-Open.is c.pass_in_warp.ensures
