-- `clock::is_same_warp` is `same_warp`. Assumes nothing.
use Rattle.clock.specs.Marked.{same_warp}
use borrow.Author.Rules.{rules}
use Rattle.clock.proofs.is_same_warp.Goals as goal

pub returns-then-warping : goal.returns-then-warping
unfolding same_warp
returns-then-warping c = rw (c.if-one.true, c.if-warping.true) c.is_same_bits.ensures

pub returns-then-one : goal.returns-then-one
unfolding same_warp
returns-then-one c = rw (c.if-one.true, c.if-warping.false)

pub returns-then-warping-2 : goal.returns-then-warping-2
unfolding same_warp
returns-then-warping-2 c = rw (c.if-one.false, c.if-warping-2.true)

pub returns : goal.returns
unfolding same_warp
returns c = rw (c.if-one.false, c.if-warping-2.false) c.is_same_bits-2.ensures
