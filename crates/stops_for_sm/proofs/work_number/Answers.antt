-- `stops_for_sm::work_number` asks for an even size. Assumes nothing.
use Rattle.picks.proofs.Rules.{flags}
use Rattle.stops_for_sm.proofs.work_number.Goals as goal

pub returns-then-is_even : goal.returns-then-is_even
returns-then-is_even c =
    rw (← c.is_even.ensures) (search flags depth 5)

pub returns : goal.returns
returns c =
    rw (← c.is_even.ensures) (search flags depth 5)
