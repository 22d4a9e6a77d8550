-- `clock::is_same_places` is `same_places`. Assumes nothing.
use borrow.Author.Tests.{eq-eqb, ne_eqb}
use Rattle.clock.specs.Marked.{same_places}
use Rattle.clock.proofs.is_same_places.Goals as goal

pub returns-then-one-other-3 : goal.returns-then-one-other-3
unfolding same_places
returns-then-one-other-3 c =
    rw (eq-eqb _ _ c.if-one-other.true, eq-eqb _ _ c.if-one-other-2.true, eq-eqb _ _ c.if-one-other-3.true)

pub returns-then-one-other-2 : goal.returns-then-one-other-2
unfolding same_places
returns-then-one-other-2 c =
    rw (eq-eqb _ _ c.if-one-other.true, eq-eqb _ _ c.if-one-other-2.true, ne_eqb _ _ c.if-one-other-3.false)

pub returns-then-one-other : goal.returns-then-one-other
unfolding same_places
returns-then-one-other c = rw (eq-eqb _ _ c.if-one-other.true, ne_eqb _ _ c.if-one-other-2.false)

pub returns : goal.returns
unfolding same_places
returns c = rw (ne_eqb _ _ c.if-one-other.false)
