use Rattle.process_sm_machine.specs.Machine.{fits}
use Rattle.process_sm_machine.proofs.fits.Goals as goal

pub returns-then-tempo : goal.returns-then-tempo
unfolding fits
returns-then-tempo c = rw c.if-tempo.true

pub returns : goal.returns
unfolding fits
returns c = rw c.if-tempo.false
