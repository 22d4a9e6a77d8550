use native.Mathlib.Omega.{arith}
use Rattle.tidy_scrolls.proofs.value_of.Goals as goal
-- `tidy_scrolls::value_of` meets its contract. Assumes nothing.
use Rattle.picks.proofs.Rules.{flags}

pub overflow_sub-result : goal.overflow_sub-result
overflow_sub-result c =
    let some = c.requires.0 c.if-change.true in
    omega arith

pub bounds-values-change : goal.bounds-values-change
bounds-values-change c =
    let some = c.requires.0 c.if-change.true in
    omega arith

pub returns-then-change : goal.returns-then-change
returns-then-change c = search flags

pub returns : goal.returns
returns c = search flags
