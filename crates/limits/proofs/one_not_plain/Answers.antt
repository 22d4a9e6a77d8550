-- `limits::one_not_plain` is 1 for a number that is not plain. Assumes nothing.
use Rattle.picks.proofs.Rules.{flags}
use Rattle.limits.proofs.one_not_plain.Goals as goal

pub returns-then-is_plain : goal.returns-then-is_plain
returns-then-is_plain c = rw (← c.is_plain.ensures) (search flags)

pub returns-else-is_plain : goal.returns-else-is_plain
returns-else-is_plain c = rw (← c.is_plain.ensures) (search flags)
