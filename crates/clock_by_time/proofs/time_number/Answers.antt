-- `clock_by_time::time_number` is `time_number`. Assumes nothing.
use Rattle.picks.proofs.Rules.{flags}
use Rattle.clock_by_time.specs.BeatAt.{time_number}
use Rattle.clock_by_time.proofs.time_number.Goals as goal

pub returns-then-taken : goal.returns-then-taken
unfolding time_number
returns-then-taken c = rw (← c.taken.ensures) (search flags depth 9)

pub returns : goal.returns
unfolding time_number
returns c = rw (← c.taken.ensures) (search flags depth 9)
