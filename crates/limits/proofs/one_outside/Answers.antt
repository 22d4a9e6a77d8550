-- `limits::one_outside` is 1 for a number that is not in the range. Assumes nothing.
use Rattle.picks.proofs.Rules.{flags}
use Rattle.limits.proofs.one_outside.Goals as goal

pub returns-then-in_range : goal.returns-then-in_range
returns-then-in_range c = rw (← c.in_range.ensures) (search flags)

pub returns-else-in_range : goal.returns-else-in_range
returns-else-in_range c = rw (← c.in_range.ensures) (search flags)
