-- `report_form::comma` meets its contract, test by test. Assumes nothing.
use Rattle.picks.proofs.Rules.{picks}
use Rattle.report_form.specs.Form.{comma_of}
use Rattle.report_form.proofs.comma.Goals as goal

pub returns-then-reading-ne16 : goal.returns-then-reading-ne16
unfolding comma_of
returns-then-reading-ne16 c = search picks

pub returns-then-reading-width : goal.returns-then-reading-width
unfolding comma_of
returns-then-reading-width c = rw (← c.width.ensures) (search picks)

pub returns : goal.returns
unfolding comma_of
returns c = rw (← c.width.ensures) (search picks)
