-- `report_form::is_whole` meets its contract, test by test. Assumes nothing.
use Rattle.picks.proofs.Rules.{flags}
use Rattle.report_form.specs.Form.{whole}
use Rattle.report_form.proofs.is_whole.Goals as goal

pub returns-then-not-reading : goal.returns-then-not-reading
unfolding whole
returns-then-not-reading c = search flags depth 12

pub returns-then-reading-eq0 : goal.returns-then-reading-eq0
unfolding whole
returns-then-reading-eq0 c = search flags depth 12

pub returns-then-reading-gt0 : goal.returns-then-reading-gt0
unfolding whole
returns-then-reading-gt0 c = search flags depth 12

pub returns : goal.returns
unfolding whole
returns c = search flags depth 12
