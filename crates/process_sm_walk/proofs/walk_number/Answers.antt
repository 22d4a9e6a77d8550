use Rattle.picks.proofs.Rules.{flags}
use Rattle.process_sm_walk.proofs.walk_number.Goals as goal

pub returns-then-room_for : goal.returns-then-room_for
returns-then-room_for c = let room = rw c.most_of-most.ensures at c.room_for.ensures in rw (← c.chart_number-number.ensures, ← room) (search flags depth 9)

pub returns-then-number-eq-TAKEN : goal.returns-then-number-eq-TAKEN
returns-then-number-eq-TAKEN c = let room = rw c.most_of-most.ensures at c.room_for.ensures in rw (← c.chart_number-number.ensures, ← room) (search flags depth 9)

pub returns : goal.returns
returns c = rw (← c.chart_number-number.ensures) (search flags depth 9)
