-- `clock_run::room_number` is `run_room_number`. Assumes nothing.
use Rattle.clock_run.specs.Run.{run_room_number}
use Rattle.std.proofs.Common.{le-leb}
use borrow.Author.Tests.{lt-leb}
use Rattle.clock_run.proofs.room_number.Goals as goal

pub returns-then-beats-room : goal.returns-then-beats-room
unfolding run_room_number
returns-then-beats-room c = rw (← c.room_of.ensures, ← c.room_of-room.ensures, le-leb _ _ c.if-beats-room.true)

pub returns : goal.returns
unfolding run_room_number
returns c = rw (← c.room_of.ensures, ← c.room_of-room.ensures, lt-leb _ _ c.if-beats-room.false)
