-- `clock_by_time::refused` is `info_refused`. Assumes nothing.
use mathlib.Core.Path.{refl}
use lib.Ieee.{of_bits}
use Rattle.clock_by_time.proofs.refused.Goals as goal

pub returns : goal.returns
unfolding of_bits
returns c = refl
