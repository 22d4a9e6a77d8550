-- `report_form::step` meets its contract, test by test. Assumes nothing.
use Rattle.picks.proofs.Rules.{flags}
use Rattle.report_form.specs.Form.{step_of}
use Rattle.report_form.proofs.step.Goals as goal

pub returns-then-not-reading : goal.returns-then-not-reading
unfolding step_of
returns-then-not-reading c = search flags depth 12

pub returns-then-byte-eq10 : goal.returns-then-byte-eq10
unfolding step_of
returns-then-byte-eq10 c = search flags depth 12

pub returns-then-byte-eq61 : goal.returns-then-byte-eq61
unfolding step_of
returns-then-byte-eq61 c = search flags depth 12

pub returns-then-byte-eq44 : goal.returns-then-byte-eq44
unfolding step_of
returns-then-byte-eq44 c = search flags depth 12

pub returns : goal.returns
unfolding step_of
returns c = search flags depth 12
