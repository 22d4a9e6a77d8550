-- `report_form::completed` meets its contract, test by test. Assumes nothing.
use Rattle.picks.proofs.Rules.{flags}
use Rattle.report_form.specs.Stores.{store_of}
use Rattle.report_form.proofs.completed.Goals as goal

pub returns-then-not-next : goal.returns-then-not-next
unfolding store_of
returns-then-not-next c = search flags depth 12

pub returns-then-byte-eq10 : goal.returns-then-byte-eq10
unfolding store_of
returns-then-byte-eq10 c = search flags depth 12

pub returns-then-byte-eq44 : goal.returns-then-byte-eq44
unfolding store_of
returns-then-byte-eq44 c = search flags depth 12

pub returns : goal.returns
unfolding store_of
returns c = search flags depth 12
