-- `clock_by_time::info_of` is `info_of`. Assumes nothing.
use Rattle.clock_by_time.proofs.info_of.Goals as goal

pub returns : goal.returns
returns c = rw (c.beat_in-beat.ensures, c.is_freeze-is_in_freeze.ensures, c.is_delay-is_in_delay.ensures)
