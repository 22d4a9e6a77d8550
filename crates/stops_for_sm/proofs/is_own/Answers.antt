-- `stops_for_sm::is_own` asks lengths. Assumes nothing.
use Rattle.picks.proofs.Rules.{flags}
use Rattle.stops_for_sm.proofs.is_own.Goals as goal

pub returns-then-delays-eq0 : goal.returns-then-delays-eq0
returns-then-delays-eq0 c =
    search flags depth 6

pub returns : goal.returns
returns c =
    search flags depth 6
