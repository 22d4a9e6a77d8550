-- `report_form::one_more` meets its contract, test by test. Assumes nothing.
use Rattle.picks.proofs.Rules.{picks}
use Rattle.report_form.specs.Form.{more}
use Rattle.report_form.proofs.one_more.Goals as goal

pub returns-then-count-gt-MOST_COUNTED : goal.returns-then-count-gt-MOST_COUNTED
unfolding more
returns-then-count-gt-MOST_COUNTED c = search picks

pub returns : goal.returns
unfolding more
returns c = search picks
