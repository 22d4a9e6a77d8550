-- `ieee::whole` meets its contract, by the laws of `RintBySum.antt`. Assumes nothing.
use lib.Ieee.{of_bits}
use Rattle.ieee.proofs.RintBySum.{sum_number, pattern-in64, difference-in64, difference_in32, difference32}
use Rattle.ieee.proofs.whole.Goals as goal

pub float_to_bits-result : goal.float_to_bits-result
unfolding of_bits
float_to_bits-result c = sum_number c.args.x c.requires

pub overflow_cast-result : goal.overflow_cast-result
unfolding of_bits
overflow_cast-result c = pattern-in64 c.args.x c.requires

pub overflow_sub-result : goal.overflow_sub-result
unfolding of_bits
overflow_sub-result c = difference-in64 c.args.x c.requires

pub overflow_cast-result-2 : goal.overflow_cast-result-2
unfolding of_bits
overflow_cast-result-2 c = difference_in32 c.args.x c.requires

pub returns : goal.returns
unfolding of_bits
returns c = difference32 c.args.x c.requires
