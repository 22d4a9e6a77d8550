-- `ieee_patterns::f64_of_bits` meets its contract. Assumes nothing.
use lib.Ieee.{binary64, of_bits, div}
use Rattle.ieee_patterns.proofs.Nan.{nan_pattern, number-pattern}
use Rattle.ieee_patterns.proofs.f64_of_bits.Goals as goal

pub returns-then-magnitude-gt9218868437227405312 : goal.returns-then-magnitude-gt9218868437227405312
unfolding div of_bits
returns-then-magnitude-gt9218868437227405312 c = nan_pattern binary64 c.args.bits c.if-magnitude-gt9218868437227405312.true

pub float_from_bits-result : goal.float_from_bits-result
float_from_bits-result c = number-pattern binary64 c.args.bits c.if-magnitude-gt9218868437227405312.false
