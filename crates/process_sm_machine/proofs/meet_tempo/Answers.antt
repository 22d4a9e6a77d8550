use Rattle.process_sm_machine.specs.Machine.{meet_tempo}
use Rattle.process_sm_machine.proofs.meet_tempo.Goals as goal

pub returns-in-Closed : goal.returns-in-Closed
unfolding meet_tempo
returns-in-Closed c = rw c.in-Closed.is c.tempo_outside.ensures

pub returns-in-Open : goal.returns-in-Open
unfolding meet_tempo
returns-in-Open c = rw c.in-Open.is c.still.ensures
