-- One rounding is not two: numbers at both widths for which a * b + c in two operations is +0, and a multiply-add has what the rounding of the product lost. Assumes nothing.
use Rattle.std.proofs.Common.{◌≡◌, true, false, negsuc, refl}
use lib.Count.{count_trailing_zeros}
use lib.Ieee.{Float, fin, binary32, binary64, size, span, climb, odd, units, round, sum, add, mul}
use Rattle.ieee.specs.Constants.{plus_zero}
use Rattle.ieee_mul_add.specs.MulAdd.{fraction_plus, mul_add}

-- f32: (1 + 2 ^ -12) squared, less 1 + 2 ^ -11, is 2 ^ -24
abbrev a32 : Float
a32 = fin false 4097 (negsuc 11)

abbrev c32 : Float
c32 = fin true 2049 (negsuc 10)

pub once_f32 : mul_add binary32 a32 a32 c32 ≡ fin false 1 (negsuc 23)
unfolding mul_add fraction_plus sum round size span climb units odd count_trailing_zeros
once_f32 = refl

pub twice_f32 : add binary32 (mul binary32 a32 a32) c32 ≡ plus_zero
unfolding add mul sum round size span climb units odd count_trailing_zeros
twice_f32 = refl

-- f64: (1 + 2 ^ -27) squared, less 1 + 2 ^ -26, is 2 ^ -54
abbrev a64 : Float
a64 = fin false 134217729 (negsuc 26)

abbrev c64 : Float
c64 = fin true 67108865 (negsuc 25)

pub once_f64 : mul_add binary64 a64 a64 c64 ≡ fin false 1 (negsuc 53)
unfolding mul_add fraction_plus sum round size span climb units odd count_trailing_zeros
once_f64 = refl

pub twice_f64 : add binary64 (mul binary64 a64 a64) c64 ≡ plus_zero
unfolding add mul sum round size span climb units odd count_trailing_zeros
twice_f64 = refl
