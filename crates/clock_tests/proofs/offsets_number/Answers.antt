-- `clock_tests::offsets_number` is `offsets_number`. Assumes nothing.
use Rattle.clock_tests.specs.TimingNumbers.{offsets_number}
use Rattle.clock_tests.proofs.offsets_number.Goals as goal

pub returns : goal.returns
unfolding offsets_number
returns c =
    rw (← c.offset_number-song.ensures, ← c.offset_number-machine.ensures) c.lower_of.ensures
