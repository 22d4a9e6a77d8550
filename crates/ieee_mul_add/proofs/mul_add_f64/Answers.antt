use Rattle.std.proofs.Common.{not, T, sym, subst, rules}
use lib.Ieee.{binary64, is_nan, mul}
use Rattle.ieee.proofs.Values.{number_of_eq}
use Rattle.ieee_mul_add.proofs.ByFractions.{number-factors}
use Rattle.ieee_mul_add.proofs.ExactProducts.{two_operations}
use Rattle.ieee_mul_add.proofs.mul_add_f64.Goals as goal
use Rattle.ieee_mul_add.proofs.mul_add_f64.Goals.{Then-product}

-- a product that equals itself is no NaN, and so are its factors
numbers : (c : Then-product) → T (not (is_nan c.args.a)) × T (not (is_nan c.args.b))
numbers c = let a = c.args in number-factors binary64 a.a a.b (number_of_eq (mul binary64 a.a a.b) c.if-product.true)

pub float_to_bits-a : goal.float_to_bits-a
float_to_bits-a c = (numbers c).0

pub float_to_bits-b : goal.float_to_bits-b
float_to_bits-b c = (numbers c).1

pub returns-then-exact : goal.returns-then-exact
returns-then-exact c =
    let s = c in
    two_operations s.args.a s.args.b s.args.c (subst T (sym s.well_formed.0.1) tt) (subst T (sym s.well_formed.1.0.1) tt) (c.exact.ensures c.if-exact.true)
