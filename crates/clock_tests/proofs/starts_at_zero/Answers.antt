-- `clock_tests::starts_at_zero` is `starts_at_zero`. Assumes nothing.
use lib.Ieee.{of_bits}
use Rattle.clock_tests.proofs.RowByRow.{none-start, first-starts}
use Rattle.clock_tests.proofs.starts_at_zero.Goals as goal

pub returns-then-beats-eq0 : goal.returns-then-beats-eq0
returns-then-beats-eq0 c =
    none-start c.args.beats.now c.if-beats-eq0.true

pub returns : goal.returns
unfolding of_bits
returns c =
    first-starts c.args.beats.now c.if-beats-eq0.false
