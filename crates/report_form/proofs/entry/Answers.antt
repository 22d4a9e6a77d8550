-- `report_form::entry` meets its contract, test by test. Assumes nothing.
use Rattle.picks.proofs.Rules.{picks}
use Rattle.report_form.specs.Form.{entry_ended}
use Rattle.report_form.proofs.entry.Goals as goal

pub returns-then-reading-width : goal.returns-then-reading-width
unfolding entry_ended
returns-then-reading-width c = rw (← c.width.ensures) (search picks)

pub returns-then-reading-last_digits : goal.returns-then-reading-last_digits
unfolding entry_ended
returns-then-reading-last_digits c = rw (← c.width.ensures, ← c.last_digits.ensures) (search picks)

pub returns : goal.returns
unfolding entry_ended
returns c = rw (← c.width.ensures, ← c.last_digits.ensures, ← c.one_more.ensures) (search picks)
