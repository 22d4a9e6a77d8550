-- `report_form::named` meets its contract, test by test. Assumes nothing.
use Rattle.picks.proofs.Rules.{flags}
use Rattle.report_form.specs.Form.{named_of}
use Rattle.report_form.proofs.named.Goals as goal

pub returns-then-reading-ne0 : goal.returns-then-reading-ne0
unfolding named_of
returns-then-reading-ne0 c = search flags

pub returns-then-not-may_follow : goal.returns-then-not-may_follow
unfolding named_of
returns-then-not-may_follow c = rw (← c.list_of-list.ensures, ← c.may_follow.ensures) (search flags)

pub returns : goal.returns
unfolding named_of
returns c = rw (← c.list_of-list.ensures, ← c.may_follow.ensures) (search flags)
