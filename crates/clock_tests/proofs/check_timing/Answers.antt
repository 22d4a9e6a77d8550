-- `clock_tests::check_timing` is `timing_number`. Assumes nothing.
use Rattle.clock_tests.specs.TimingNumbers.{timing_number}
use Rattle.clock_tests.proofs.check_timing.Goals as goal

pub returns : goal.returns
unfolding timing_number
returns c =
    rw (← c.lists_number-lists.ensures, ← c.offsets_number-offsets.ensures, ← c.order_number-order.ensures, ← c.lower_of-later.ensures) c.lower_of.ensures
