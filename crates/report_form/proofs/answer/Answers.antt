-- `report_form::answer` meets its contract, test by test. Assumes nothing.
use Rattle.picks.proofs.Rules.{flags}
use Rattle.report_form.specs.Form.{answer_of}
use Rattle.report_form.proofs.answer.Goals as goal

pub returns-then-not-is_whole : goal.returns-then-not-is_whole
unfolding answer_of
returns-then-not-is_whole c = rw (← c.is_whole.ensures) (search flags)

pub returns-then-is_over : goal.returns-then-is_over
unfolding answer_of
returns-then-is_over c = rw (← c.is_whole.ensures, ← c.is_over.ensures) (search flags)

pub returns : goal.returns
unfolding answer_of
returns c = rw (← c.is_whole.ensures, ← c.is_over.ensures) (search flags)
