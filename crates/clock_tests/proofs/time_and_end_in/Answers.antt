-- `clock_tests::time_and_end_in` is `time_and_end_in`. Assumes nothing.
use Rattle.clock_tests.specs.CursorNumbers.{time_and_end_in}
use Rattle.std.proofs.Common.{sym, ◌∙◌}
use Rattle.clock_tests.proofs.time_and_end_in.Goals as goal

pub returns-then-is_finite : goal.returns-then-is_finite
unfolding time_and_end_in
returns-then-is_finite c = rw (sym c.is_finite.ensures ∙ c.if-is_finite.true) c.end_in.ensures

pub returns : goal.returns
unfolding time_and_end_in
returns c = rw (sym c.is_finite.ensures ∙ c.if-is_finite.false)
