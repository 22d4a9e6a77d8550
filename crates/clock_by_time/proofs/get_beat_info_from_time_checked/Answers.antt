-- `clock_by_time::get_beat_info_from_time_checked` tests the time, and answers. Assumes nothing.
use borrow.Author.Tests.{eq-eqb, ne_eqb}
use Rattle.clock_by_time.specs.BeatAt.{beat_info_checked}
use Rattle.clock_by_time.proofs.get_beat_info_from_time_checked.Goals as goal

pub returns-then-number-ne-TAKEN : goal.returns-then-number-ne-TAKEN
unfolding beat_info_checked
returns-then-number-ne-TAKEN c = rw (c.refused.ensures, ← c.time_number-number.ensures, ne_eqb _ 0 c.if-number-ne-TAKEN.true)

pub returns : goal.returns
unfolding beat_info_checked
returns c = rw (← c.time_number-number.ensures, eq-eqb _ 0 c.if-number-ne-TAKEN.false) c.info_at.ensures
