-- `clock_tests::places_in` is `places_in`. Assumes nothing.
use Rattle.picks.proofs.Rules.{flags}
use Rattle.clock_tests.specs.CursorNumbers.{places_in}
use Rattle.clock_tests.proofs.places_in.Goals as goal

pub returns-then-state-delays : goal.returns-then-state-delays
unfolding places_in
returns-then-state-delays c =
    search flags depth 12

pub returns-then-state-stops : goal.returns-then-state-stops
unfolding places_in
returns-then-state-stops c =
    search flags depth 12

pub returns-then-state-tempos : goal.returns-then-state-tempos
unfolding places_in
returns-then-state-tempos c =
    search flags depth 12

pub returns : goal.returns
unfolding places_in
returns c =
    search flags depth 12
