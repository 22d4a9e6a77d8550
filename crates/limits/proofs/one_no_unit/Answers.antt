-- `limits::one_no_unit` is 1 for a number that is no unit. Assumes nothing.
use Rattle.picks.proofs.Rules.{picks}
use Rattle.limits.proofs.one_no_unit.Goals as goal

pub returns-then-unit-le1 : goal.returns-then-unit-le1
returns-then-unit-le1 c = search picks

pub returns-else-unit-le1 : goal.returns-else-unit-le1
returns-else-unit-le1 c = search picks
