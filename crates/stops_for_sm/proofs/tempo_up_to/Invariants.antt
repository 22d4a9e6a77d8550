-- `stops_for_sm::tempo_up_to` moves forward. Assumes nothing.
use Rattle.std.proofs.Common.{◌≡◌, ◌+◌}
use Rattle.stops_for_sm.proofs.TempoForward.{Forward}
use Rattle.stops_for_sm.proofs.tempo_up_to.Given as goal

abbrev pub invariant-loop-next : goal.invariant-loop-next
invariant-loop-next l = (l.at + 1 ≡ l.next) × Forward l.tempo_beats l.place l.beat l.at
