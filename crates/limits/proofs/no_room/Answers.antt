-- `limits::no_room` answers 7 where a result does not fit. Assumes nothing.
use Rattle.picks.proofs.Rules.{flags}
use Rattle.limits.proofs.no_room.Goals as goal

pub returns-then-fits : goal.returns-then-fits
returns-then-fits c = search flags

pub returns-else-fits : goal.returns-else-fits
returns-else-fits c = search flags
