-- `limits::is_plain` is `plain`, test by test. Assumes nothing.
use Rattle.picks.proofs.Rules.{flags}
use Rattle.limits.specs.Plain.{plain}
use Rattle.limits.proofs.is_plain.Goals as goal

pub returns-then-lies_inside : goal.returns-then-lies_inside
unfolding plain
returns-then-lies_inside c = rw (← c.lies_inside.ensures) (search flags depth 8)

pub returns : goal.returns
unfolding plain
returns c = rw (← c.lies_inside.ensures, c.lies_within.ensures) (search flags depth 8)
