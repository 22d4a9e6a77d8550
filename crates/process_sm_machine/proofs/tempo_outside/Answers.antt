use Rattle.process_sm_machine.specs.Machine.{tempo_outside}
use Rattle.process_sm_machine.proofs.tempo_outside.Goals as goal

pub returns-then-fit : goal.returns-then-fit
unfolding tempo_outside
returns-then-fit c = rw (← c.fits-fit.ensures, c.if-fit.true, c.entry_at-wrote_tempo.ensures)

pub returns : goal.returns
unfolding tempo_outside
returns c = rw (← c.fits-fit.ensures, c.if-fit.false) c.still.ensures
