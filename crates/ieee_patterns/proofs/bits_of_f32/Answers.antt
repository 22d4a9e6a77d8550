-- `ieee_patterns::bits_of_f32` meets its contract. Assumes nothing.
use mathlib.Core.Path.{sym, ap, subst}
use lib.Dec.{T}
use lib.Ieee.{to_bits, binary32}
use lib.Ieee.Compare.{differs_from_itself}
use Rattle.ieee_patterns.proofs.Nan.{number_is}
use Rattle.ieee_patterns.proofs.bits_of_f32.Goals as goal

pub returns-then-x : goal.returns-then-x
unfolding to_bits
returns-then-x c = sym (ap (to_bits binary32) (differs_from_itself c.args.x (subst T (sym c.if-x.true) tt)))

pub float_to_bits-result : goal.float_to_bits-result
float_to_bits-result c = number_is c.args.x c.if-x.false
