use Rattle.std.proofs.Common.{sym, ap, arith, rules}
use Rattle.ieee_odd_cut.specs.OddCut.{made_odd}
use Rattle.ieee_odd_cut.proofs.OneOddCut.{made-lost}
use Rattle.ieee_mul_add.proofs.made_odd.Goals as goal

pub returns-then-rest-eq0 : goal.returns-then-rest-eq0
unfolding made_odd
returns-then-rest-eq0 c = sym (ap (made_odd c.args.q) c.if-rest-eq0.true)

pub returns-else-rest-eq0 : goal.returns-else-rest-eq0
returns-else-rest-eq0 c = sym (made-lost c.args.q c.args.rest (omega arith))
