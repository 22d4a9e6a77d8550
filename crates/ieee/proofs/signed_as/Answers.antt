-- `ieee::signed_as` meets its contract (`Signs.antt`). Assumes nothing.
use mathlib.Core.Path.{sym, subst}
use Prim.Native.Nat.{◌+◌, ◌*◌, ◌/◌, ◌%◌}
use native.Mathlib.Omega.{arith}
use lib.Dec.{T}
use lib.Ieee.{binary64, fits, to_bits}
use lib.Ieee.Bits.{to_bits-lt}
use Rattle.ieee.specs.Nearest.{sign_of}
use Rattle.ieee.specs.inside.Spacing.{with_sign}
use Rattle.ieee.proofs.Signs.{sign-number, signed_bits, number_bits}
use Rattle.ieee.proofs.signed_as.Goals as goal
use Rattle.ieee.proofs.signed_as.Goals.{Start}

fits-a : (c : Start) → T (fits binary64 c.args.a)
fits-a c = subst T (sym c.well_formed.0.1) tt

fits_x : (c : Start) → T (fits binary64 c.args.x)
fits_x c = subst T (sym c.well_formed.1.0.1) tt

pub overflow_mul-result : goal.overflow_mul-result
overflow_mul-result c = omega (arith, to_bits-lt binary64 c.args.x (fits_x c))

pub overflow_add-result : goal.overflow_add-result
overflow_add-result c = omega (arith, to_bits-lt binary64 c.args.x (fits_x c))

pub float_from_bits-result : goal.float_from_bits-result
float_from_bits-result c =
    let a = c.args.a in
    let x = c.args.x in
    number_bits binary64 (to_bits binary64 a % 0x8000_0000_0000_0000 + to_bits binary64 x / 0x8000_0000_0000_0000 * 0x8000_0000_0000_0000) (with_sign (sign_of x) a)
    (signed_bits binary64 a x (fits-a c) (fits_x c) c.requires.0 c.requires.1)
    (sign-number (sign_of x) a c.requires.0)

pub returns : goal.returns
returns c = signed_bits binary64 c.args.a c.args.x (fits-a c) (fits_x c) c.requires.0 c.requires.1
