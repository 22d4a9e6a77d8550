use Rattle.process_sm_machine.specs.Machine.{tempo_after}
use Rattle.process_sm_machine.proofs.tempo_after.Goals as goal

pub returns-then-tempo-former : goal.returns-then-tempo-former
unfolding tempo_after
returns-then-tempo-former c = rw c.if-tempo-former.true

pub returns : goal.returns
unfolding tempo_after
returns c = rw (c.if-tempo-former.false, c.entry_at.ensures)
