use Rattle.std.proofs.Common.{◌+◌, Bool, cond, sym, refl, ap, ◌∙◌, zero-add, arith, rules}
use lib.Ieee.{binary64, of_bits}
use Rattle.ieee_mul_add.proofs.ByFloats.{no_nan}
use Rattle.ieee_mul_add.proofs.signed_f64.Goals as goal

pub float_from_bits-result : goal.float_from_bits-result
float_from_bits-result c = no_nan binary64 (9223372036854775808 + c.args.size) (let h = c.requires in omega arith)

pub float_from_bits-result-else-sign : goal.float_from_bits-result-else-sign
float_from_bits-result-else-sign c = no_nan binary64 c.args.size (let h = c.requires in omega arith)

pub returns-then-sign : goal.returns-then-sign
returns-then-sign c = rw c.if-sign.true refl

pub returns-else-sign : goal.returns-else-sign
returns-else-sign c = ap (of_bits binary64) (sym (ap (λ (b : Bool). cond b 9223372036854775808 0 + c.args.size) c.if-sign.false ∙ zero-add c.args.size))
