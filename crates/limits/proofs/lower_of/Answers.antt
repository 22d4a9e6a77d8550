-- `limits::lower_of` is the lower number, test by test. Assumes nothing.
use Rattle.picks.proofs.Rules.{picks}
use Rattle.limits.specs.Refusals.{lower}
use Rattle.limits.proofs.lower_of.Goals as goal

pub returns-then-one-eq-TAKEN : goal.returns-then-one-eq-TAKEN
unfolding lower
returns-then-one-eq-TAKEN c = search picks

pub returns-then-other-eq-TAKEN : goal.returns-then-other-eq-TAKEN
unfolding lower
returns-then-other-eq-TAKEN c = search picks

pub returns-then-one-other : goal.returns-then-one-other
unfolding lower
returns-then-one-other c = search picks

pub returns : goal.returns
unfolding lower
returns c = search picks
