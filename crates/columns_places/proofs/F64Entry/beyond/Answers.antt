-- What stands for a number beyond the end of its column is a NaN. Assumes nothing.
use Rattle.std.proofs.Common.{refl}
use lib.Ieee.{of_bits}
use Rattle.columns_places.proofs.F64Entry.beyond.Goals as goal

pub returns : goal.returns
unfolding of_bits
returns c = refl
