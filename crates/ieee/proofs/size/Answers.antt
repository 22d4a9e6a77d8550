-- `ieee::size` meets its contract (`Signs.antt`). Assumes nothing.
use mathlib.Core.Path.{sym, subst}
use Prim.Native.Nat.{◌%◌}
use mathlib.Core.Bool.{false}
use lib.Dec.{T}
use lib.Ieee.{binary64, fits, to_bits}
use Rattle.ieee.specs.inside.Spacing.{with_sign}
use Rattle.ieee.proofs.Signs.{sign-number, size_bits, number_bits}
use Rattle.ieee.proofs.size.Goals as goal
use Rattle.ieee.proofs.size.Goals.{Start}

fits-of : (c : Start) → T (fits binary64 c.args.x)
fits-of c = subst T (sym c.well_formed.0.1) tt

pub float_from_bits-result : goal.float_from_bits-result
float_from_bits-result c =
    let x = c.args.x in
    number_bits binary64 (to_bits binary64 x % 0x8000_0000_0000_0000) (with_sign false x) (size_bits binary64 x (fits-of c) c.requires) (sign-number false x c.requires)

pub returns : goal.returns
returns c = size_bits binary64 c.args.x (fits-of c) c.requires
