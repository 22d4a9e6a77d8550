-- `assembly_tempos::refused` answers a number and nothing else. Assumes nothing.
use mathlib.Core.Path.{refl}
use lib.Ieee.{of_bits}
use Rattle.assembly_tempos.proofs.refused.Goals as goal

pub returns : goal.returns
unfolding of_bits
returns c = refl
