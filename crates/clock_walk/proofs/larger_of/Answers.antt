-- `clock_walk::larger_of` meets its contract. Assumes nothing.
use Rattle.clock_walk.specs.Passing.{larger}
use Rattle.clock_walk.proofs.larger_of.Goals as goal

pub returns-then-old-new : goal.returns-then-old-new
unfolding larger
returns-then-old-new c =
    rw c.if-old-new.true

pub returns : goal.returns
unfolding larger
returns c =
    rw c.if-old-new.false
