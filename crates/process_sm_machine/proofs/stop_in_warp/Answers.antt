use Rattle.process_sm_machine.specs.Machine.{stop_in_warp}
use Rattle.process_sm_machine.proofs.stop_in_warp.Goals as goal

pub returns-then-fit : goal.returns-then-fit
unfolding stop_in_warp
returns-then-fit c = rw (c.if-length.true, c.if-rest.true, ← c.fits-fit.ensures, c.if-fit.true) c.close_by_stop.ensures

pub returns-then-rest : goal.returns-then-rest
unfolding stop_in_warp
returns-then-rest c = rw (c.if-length.true, c.if-rest.true, ← c.fits-fit.ensures, c.if-fit.false) c.begin_again.ensures

pub returns-then-length : goal.returns-then-length
unfolding stop_in_warp
returns-then-length c = rw (c.if-length.true, c.if-rest.false) c.keep_warp.ensures

pub returns : goal.returns
unfolding stop_in_warp
returns c = rw c.if-length.false c.keep_warp-2.ensures
