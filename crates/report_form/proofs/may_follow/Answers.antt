-- `report_form::may_follow` meets its contract, test by test. Assumes nothing.
use Rattle.picks.proofs.Rules.{picks}
use Rattle.report_form.specs.Form.{follows}
use Rattle.report_form.proofs.may_follow.Goals as goal

pub returns-then-last-eq0 : goal.returns-then-last-eq0
unfolding follows
returns-then-last-eq0 c = search picks

pub returns-then-next-gt1 : goal.returns-then-next-gt1
unfolding follows
returns-then-next-gt1 c = search picks

pub returns : goal.returns
unfolding follows
returns c = search picks
