-- `stops_for_sm::lacks_tempo` asks lengths. Assumes nothing.
use Rattle.picks.proofs.Rules.{flags}
use Rattle.stops_for_sm.proofs.lacks_tempo.Goals as goal

pub returns-then-tempos-eq0 : goal.returns-then-tempos-eq0
returns-then-tempos-eq0 c =
    search flags depth 6

pub returns : goal.returns
returns c =
    search flags depth 6
