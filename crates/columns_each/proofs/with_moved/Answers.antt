-- `columns_each::with_moved` meets its contract. Assumes nothing.
use Rattle.std.proofs.Common.{refl, eq-eqb, ne_eqb}
use Rattle.columns_each.proofs.with_moved.Goals as goal

pub returns-then-number-eq-TAKEN : goal.returns-then-number-eq-TAKEN
returns-then-number-eq-TAKEN c = (refl, rw (eq-eqb c.args.outcome.number 0 c.if-number-eq-TAKEN.true))

pub returns-else-number-eq-TAKEN : goal.returns-else-number-eq-TAKEN
returns-else-number-eq-TAKEN c = (refl, rw (ne_eqb c.args.outcome.number 0 c.if-number-eq-TAKEN.false))
