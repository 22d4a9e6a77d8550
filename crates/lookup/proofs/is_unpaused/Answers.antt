-- `lookup::is_unpaused` finds none of either list. Assumes nothing.
use Rattle.picks.proofs.Rules.{flags}
use Rattle.lookup.proofs.is_unpaused.Goals as goal

pub returns-then-is_paused : goal.returns-then-is_paused
returns-then-is_paused c = rw (← c.is_paused.ensures) (search flags depth 8)

pub returns : goal.returns
returns c = rw (← c.is_paused-2.ensures, ← c.is_paused.ensures) (search flags depth 8)
