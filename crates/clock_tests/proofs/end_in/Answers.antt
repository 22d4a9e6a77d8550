-- `clock_tests::end_in` is `end_in`. Assumes nothing.
use Rattle.picks.proofs.Rules.{flags}
use lib.Ieee.{of_bits}
use Rattle.clock_tests.specs.CursorNumbers.{end_in}
use Rattle.clock_tests.proofs.end_in.Goals as goal

pub returns-then-end : goal.returns-then-end
unfolding end_in of_bits
returns-then-end c =
    search flags depth 9

pub returns : goal.returns
unfolding end_in of_bits
returns c =
    search flags depth 9
