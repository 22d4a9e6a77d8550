-- `report_form::open` meets its contract, test by test. Assumes nothing.
use Rattle.picks.proofs.Rules.{picks}
use Rattle.report_form.specs.Form.{opened}
use Rattle.report_form.proofs.open.Goals as goal

pub returns-then-list-reading : goal.returns-then-list-reading
unfolding opened
returns-then-list-reading c = search picks

pub returns : goal.returns
unfolding opened
returns c = search picks
