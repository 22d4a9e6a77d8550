-- `notes_displayed::answer_behind` refuses the beat, or draws it. Assumes nothing.
use lib.Ieee.{of_bits}
use Rattle.std.proofs.Common.{ne_eqb}
use Rattle.notes_displayed.specs.Answers.{displayed}
use Rattle.notes_displayed.proofs.answer_behind.Goals as goal

pub returns-then-number-eq-TAKEN : goal.returns-then-number-eq-TAKEN
unfolding displayed
returns-then-number-eq-TAKEN c = rw (← c.beat_number-number.ensures, c.if-number-eq-TAKEN.true, ← c.draw_behind.ensures)

pub returns : goal.returns
unfolding displayed of_bits
returns c = rw (← c.beat_number-number.ensures, ne_eqb _ 0 c.if-number-eq-TAKEN.false)
