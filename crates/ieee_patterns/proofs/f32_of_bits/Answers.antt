-- `ieee_patterns::f32_of_bits` meets its contract. Assumes nothing.
use lib.Ieee.{binary32, of_bits, div}
use Rattle.ieee_patterns.proofs.Nan.{nan_pattern, number-pattern}
use Rattle.ieee_patterns.proofs.f32_of_bits.Goals as goal

pub returns-then-magnitude-gt2139095040 : goal.returns-then-magnitude-gt2139095040
unfolding div of_bits
returns-then-magnitude-gt2139095040 c = nan_pattern binary32 c.args.bits c.if-magnitude-gt2139095040.true

pub float_from_bits-result : goal.float_from_bits-result
float_from_bits-result c = number-pattern binary32 c.args.bits c.if-magnitude-gt2139095040.false
