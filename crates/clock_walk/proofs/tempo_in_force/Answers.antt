-- `clock_walk::tempo_in_force` meets its contract. Assumes nothing.
use Rattle.std.proofs.Common.{eq-eqb, ne_eqb}
use Rattle.clock_walk.specs.Passing.{in_force}
use Rattle.clock_walk.proofs.tempo_in_force.Goals as goal

pub returns-then-place-eq0 : goal.returns-then-place-eq0
unfolding in_force
returns-then-place-eq0 c =
    rw (eq-eqb _ _ c.if-place-eq0.true)

pub returns : goal.returns
unfolding in_force
returns c =
    rw (ne_eqb _ _ c.if-place-eq0.false) c.read_at.ensures
