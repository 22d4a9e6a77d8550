-- `report_form::ended` meets its contract, test by test. Assumes nothing.
use Rattle.picks.proofs.Rules.{picks}
use Rattle.report_form.specs.Form.{ended_of}
use Rattle.report_form.proofs.ended.Goals as goal

pub returns-then-reading-eq1 : goal.returns-then-reading-eq1
unfolding ended_of
returns-then-reading-eq1 c = search picks

pub returns : goal.returns
unfolding ended_of
returns c = search picks
