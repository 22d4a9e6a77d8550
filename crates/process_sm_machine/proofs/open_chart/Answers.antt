use Rattle.process_sm_machine.specs.Machine.{open_chart}
use Rattle.process_sm_machine.proofs.open_chart.Goals as goal

pub returns-then-written : goal.returns-then-written
unfolding open_chart
returns-then-written c = rw (← c.fits-written.ensures, c.if-written.true, c.entry_at-wrote_tempo.ensures)

pub returns : goal.returns
unfolding open_chart
returns c = rw (← c.fits-written.ensures, c.if-written.false) c.still.ensures
