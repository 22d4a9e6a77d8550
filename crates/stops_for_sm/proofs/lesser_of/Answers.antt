-- `stops_for_sm::lesser_of` takes a head that is less. Assumes nothing.
use Rattle.picks.proofs.Rules.{flags}
use Rattle.stops_for_sm.proofs.lesser_of.Goals as goal

pub returns-then-head-least : goal.returns-then-head-least
returns-then-head-least c = search flags depth 9

pub returns-else-head-least : goal.returns-else-head-least
returns-else-head-least c = search flags depth 9
