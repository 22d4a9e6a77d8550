-- `clock_by_time::room_of` is `shortest_of`. Assumes nothing.
use Rattle.clock_by_time.specs.ManyTimes.{shortest_of}
use Rattle.clock_by_time.proofs.room_of.Goals as goal

pub returns : goal.returns
unfolding shortest_of
returns c = rw (c.room_of-3.ensures, c.room_of-2.ensures, c.room_of-marks.ensures, c.room_of.ensures)
