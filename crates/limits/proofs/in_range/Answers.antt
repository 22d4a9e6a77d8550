-- `limits::in_range` is `inRange`, test by test. Assumes nothing.
use lib.Ieee.{of_bits, div}
use Rattle.picks.proofs.Rules.{flags}
use Rattle.limits.specs.Numbers.{in_range}
use Rattle.limits.proofs.in_range.Goals as goal

pub returns-then-size-range-2 : goal.returns-then-size-range-2
unfolding in_range of_bits div
returns-then-size-range-2 c = rw (← c.magnitude-size.ensures) (search flags depth 8)

pub returns-then-size : goal.returns-then-size
unfolding in_range of_bits div
returns-then-size c = rw (← c.magnitude-size.ensures) (search flags depth 8)

pub returns-then-size-range : goal.returns-then-size-range
unfolding in_range of_bits div
returns-then-size-range c = rw (← c.magnitude-size.ensures) (search flags depth 8)

pub returns-then-size-2 : goal.returns-then-size-2
unfolding in_range of_bits div
returns-then-size-2 c = rw (← c.magnitude-size.ensures) (search flags depth 8)

pub returns : goal.returns
unfolding in_range of_bits div
returns c = rw (← c.magnitude-size.ensures) (search flags depth 8)
