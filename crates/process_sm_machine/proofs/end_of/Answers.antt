use Rattle.process_sm_machine.specs.Machine.{warp_end_of}
use Rattle.process_sm_machine.proofs.end_of.Goals as goal

pub returns-then-fit : goal.returns-then-fit
unfolding warp_end_of
returns-then-fit c = rw (← c.fits-fit.ensures, c.if-fit.true)

pub returns : goal.returns
unfolding warp_end_of
returns c = rw (← c.fits-fit.ensures, c.if-fit.false)
