use Rattle.process_sm_machine.specs.Machine.{owed_at}
use Rattle.process_sm_machine.proofs.owed_at.Goals as goal

pub returns-then-tempo : goal.returns-then-tempo
unfolding owed_at
returns-then-tempo c = rw c.if-tempo.true

pub returns : goal.returns
unfolding owed_at
returns c = rw c.if-tempo.false
