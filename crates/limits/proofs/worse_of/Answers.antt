-- `limits::worse_of` is the larger of two. Assumes nothing.
use Rattle.picks.proofs.Rules.{flags}
use Rattle.limits.proofs.worse_of.Goals as goal

pub returns-then-one-other : goal.returns-then-one-other
returns-then-one-other c = search flags

pub returns-else-one-other : goal.returns-else-one-other
returns-else-one-other c = search flags
