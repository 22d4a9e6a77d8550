-- `report_form::format` meets its contract, test by test. Assumes nothing.
use Rattle.picks.proofs.Rules.{picks}
use Rattle.report_form.specs.Form.{format_ended}
use Rattle.report_form.proofs.format.Goals as goal

pub returns-then-reading-ne1 : goal.returns-then-reading-ne1
unfolding format_ended
returns-then-reading-ne1 c = search picks

pub returns-then-reading-eq29549 : goal.returns-then-reading-eq29549
unfolding format_ended
returns-then-reading-eq29549 c = search picks

pub returns-then-reading-eq7566179 : goal.returns-then-reading-eq7566179
unfolding format_ended
returns-then-reading-eq7566179 c = search picks

pub returns : goal.returns
unfolding format_ended
returns c = search picks
