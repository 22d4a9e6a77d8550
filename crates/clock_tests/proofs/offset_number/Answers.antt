-- `clock_tests::offset_number` is `offset_number`. Assumes nothing.
use Rattle.picks.proofs.Rules.{flags}
use Rattle.clock_tests.specs.TimingNumbers.{offset_number}
use Rattle.clock_tests.proofs.offset_number.Goals as goal

pub returns-then-taken : goal.returns-then-taken
unfolding offset_number
returns-then-taken c =
    rw (← c.taken.ensures) (search flags depth 9)

pub returns : goal.returns
unfolding offset_number
returns c =
    rw (← c.taken.ensures) (search flags depth 9)
