-- `report_form::last_digits` meets its contract, test by test. Assumes nothing.
use Rattle.picks.proofs.Rules.{picks}
use Rattle.report_form.specs.Form.{last_digits_of}
use Rattle.report_form.proofs.last_digits.Goals as goal

pub returns-then-list-eq6 : goal.returns-then-list-eq6
unfolding last_digits_of
returns-then-list-eq6 c = search picks

pub returns : goal.returns
unfolding last_digits_of
returns c = search picks
