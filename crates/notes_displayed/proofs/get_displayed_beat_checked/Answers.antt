-- `notes_displayed::get_displayed_beat_checked` refuses the beat, or draws it by the count that a search finds. Assumes nothing.
use lib.Ieee.{of_bits}
use Rattle.std.proofs.Common.{ne_eqb}
use Rattle.notes_displayed.specs.Scrolls.{displayed_by}
use Rattle.notes_displayed.specs.Answers.{displayed, checked_at}
use Rattle.notes_displayed.proofs.get_displayed_beat_checked.Goals as goal

pub returns-then-number-eq-TAKEN : goal.returns-then-number-eq-TAKEN
unfolding displayed checked_at displayed_by
returns-then-number-eq-TAKEN c = rw (← c.beat_number-number.ensures, c.if-number-eq-TAKEN.true, ← c.count_up_to-count.ensures, ← c.draw_behind.ensures)

pub returns : goal.returns
unfolding displayed checked_at of_bits
returns c = rw (← c.beat_number-number.ensures, ne_eqb _ 0 c.if-number-eq-TAKEN.false)
