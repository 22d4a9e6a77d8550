-- `report_form::width` meets its contract, test by test. Assumes nothing.
use Rattle.picks.proofs.Rules.{picks}
use Rattle.report_form.specs.Form.{width_of}
use Rattle.report_form.proofs.width.Goals as goal

pub returns-then-list-eq6 : goal.returns-then-list-eq6
unfolding width_of
returns-then-list-eq6 c = search picks

pub returns : goal.returns
unfolding width_of
returns c = search picks
