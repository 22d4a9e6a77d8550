-- `limits::magnitude` is the size of a float. Assumes nothing.
use lib.Ieee.{of_bits}
use Rattle.picks.proofs.Rules.{flags}
use Rattle.limits.proofs.magnitude.Goals as goal

pub returns-then-x : goal.returns-then-x
unfolding of_bits
returns-then-x c = search flags

pub returns-else-x : goal.returns-else-x
unfolding of_bits
returns-else-x c = search flags
