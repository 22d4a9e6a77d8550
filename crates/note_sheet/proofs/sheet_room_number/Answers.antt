-- `note_sheet::sheet_room_number` is `sheet_room_number`. Assumes nothing.
use borrow.Author.Tests.{le-leb, lt-leb}
use Rattle.note_sheet.specs.Sheet.{sheet_room_number}
use Rattle.note_sheet.proofs.sheet_room_number.Goals as goal

pub returns-then-rows-room : goal.returns-then-rows-room
unfolding sheet_room_number
returns-then-rows-room c = rw (← c.room_of.ensures, ← c.room_of-room.ensures, le-leb _ _ c.if-rows-room.true)

pub returns : goal.returns
unfolding sheet_room_number
returns c = rw (← c.room_of.ensures, ← c.room_of-room.ensures, lt-leb _ _ c.if-rows-room.false)
