-- `clock_tests::is_finite` is `finite`. Assumes nothing.
use lib.Ieee.{binary64, of_bits}
use Rattle.ieee.proofs.FiniteTest.{finite-test}
use Rattle.clock_tests.proofs.is_finite.Goals as goal

pub returns : goal.returns
unfolding of_bits
returns c =
    finite-test binary64 c.args.time
