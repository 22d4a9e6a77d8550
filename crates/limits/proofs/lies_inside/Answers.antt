-- `limits::lies_inside` is `inside`. Assumes nothing.
use Rattle.picks.proofs.Rules.{flags}
use Rattle.limits.specs.Plain.{inside}
use Rattle.limits.proofs.lies_inside.Goals as goal

pub returns-then-size-x : goal.returns-then-size-x
unfolding inside
returns-then-size-x c = search flags

pub returns : goal.returns
unfolding inside
returns c = search flags
