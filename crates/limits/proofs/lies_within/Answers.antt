-- `limits::lies_within` is `within`. Assumes nothing.
use Rattle.picks.proofs.Rules.{flags}
use Rattle.limits.specs.Plain.{within}
use Rattle.limits.proofs.lies_within.Goals as goal

pub returns-then-size-x : goal.returns-then-size-x
unfolding within
returns-then-size-x c = search flags

pub returns : goal.returns
unfolding within
returns c = search flags
