use Rattle.std.proofs.Common.{sym, refl, rules, eq-eqb, ne_eqb}
use Rattle.ieee_mul_add.proofs.digits.Goals as goal

pub returns-then-pattern-eq0 : goal.returns-then-pattern-eq0
returns-then-pattern-eq0 c = sym (rw (eq-eqb _ 0 c.if-pattern-eq0.true) refl)

pub returns-else-pattern-eq0 : goal.returns-else-pattern-eq0
returns-else-pattern-eq0 c = sym (rw (ne_eqb _ 0 c.if-pattern-eq0.false) refl)
