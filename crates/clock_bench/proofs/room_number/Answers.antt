-- `clock_bench::room_number` meets its contract. Assumes nothing.
use Rattle.std.proofs.Common.{le-leb}
use borrow.Author.Tests.{lt-leb}
use Rattle.clock_bench.proofs.room_number.Goals as goal

pub returns-then-most-room : goal.returns-then-most-room
returns-then-most-room c = rw (← c.room_of.ensures, ← c.room_of-room.ensures, le-leb _ _ c.if-most-room.true)

pub returns : goal.returns
returns c = rw (← c.room_of.ensures, ← c.room_of-room.ensures, lt-leb _ _ c.if-most-room.false)
