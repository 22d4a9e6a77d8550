use Rattle.process_sm_machine.specs.Machine.{stop_outside}
use Rattle.process_sm_machine.proofs.stop_outside.Goals as goal

pub returns-then-length : goal.returns-then-length
unfolding stop_outside
returns-then-length c = rw c.if-length.true c.still.ensures

pub returns : goal.returns
unfolding stop_outside
returns c = rw (c.if-length.false, c.entry_at-wrote_stop.ensures)
