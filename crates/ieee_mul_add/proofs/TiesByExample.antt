-- Two ties at f32, one that is rounded down and one that is rounded up, each to the number with an even last digit. Assumes nothing.
use Rattle.std.proofs.Common.{◌≡◌, false, pos, negsuc, refl}
use lib.Count.{count_trailing_zeros}
use lib.Ieee.{Float, fin, binary32, size, span, climb, odd, units, round, sum}
use Rattle.ieee_mul_add.specs.MulAdd.{fraction_plus, mul_add}

abbrev one : Float
one = fin false 1 (pos 0)

-- half of the last digit of 1, 2 ^ -24
abbrev half : Float
half = fin false 1 (negsuc 23)

-- 1 * 1 + 2 ^ -24 is half way between 1 and 1 + 2 ^ -23, and 1 is even
pub tie_down : mul_add binary32 one one half ≡ one
unfolding mul_add fraction_plus sum round size span climb units odd count_trailing_zeros
tie_down = refl

-- (1 + 2 ^ -23) * 1 + 2 ^ -24 is half way between 1 + 2 ^ -23 and 1 + 2 ^ -22, and the second is even
pub tie_up : mul_add binary32 (fin false 8388609 (negsuc 22)) one half ≡ fin false 4194305 (negsuc 21)
unfolding mul_add fraction_plus sum round size span climb units odd count_trailing_zeros
tie_up = refl
