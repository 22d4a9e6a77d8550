use Rattle.picks.proofs.Rules.{flags}
use Rattle.process_sm_walk.proofs.room_for.Goals as goal

pub returns-then-counts-stop_room : goal.returns-then-counts-stop_room
returns-then-counts-stop_room c = search flags depth 9

pub returns-then-counts-tempo_room : goal.returns-then-counts-tempo_room
returns-then-counts-tempo_room c = search flags depth 9

pub returns : goal.returns
returns c = search flags depth 9
