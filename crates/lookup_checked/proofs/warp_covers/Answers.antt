-- `lookup_checked::warp_covers` tests a warp. Assumes nothing.
use lib.Ieee.{of_bits}
use Rattle.picks.proofs.Rules.{flags}
use Rattle.lookup_checked.proofs.warp_covers.Goals as goal

pub returns-then-beat-at : goal.returns-then-beat-at
unfolding of_bits
returns-then-beat-at c = search flags depth 8

pub returns-else-beat-at : goal.returns-else-beat-at
unfolding of_bits
returns-else-beat-at c = search flags depth 8

pub returns-else-length : goal.returns-else-length
unfolding of_bits
returns-else-length c = search flags depth 8
