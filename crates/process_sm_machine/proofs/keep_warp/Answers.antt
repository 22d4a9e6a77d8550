use Rattle.process_sm_machine.specs.Machine.{keep_warp}
use Rattle.process_sm_machine.proofs.keep_warp.Goals as goal

pub returns : goal.returns
unfolding keep_warp
returns c = c.still.ensures
