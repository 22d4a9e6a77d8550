-- `report_form::unit` meets its contract, test by test. Assumes nothing.
use Rattle.picks.proofs.Rules.{picks}
use Rattle.report_form.specs.Form.{unit_read}
use Rattle.report_form.proofs.unit.Goals as goal

pub returns-then-byte-lt48 : goal.returns-then-byte-lt48
unfolding unit_read
returns-then-byte-lt48 c = search picks

pub returns-then-byte-gt57 : goal.returns-then-byte-gt57
unfolding unit_read
returns-then-byte-gt57 c = search picks

pub returns-then-reading-ge1 : goal.returns-then-reading-ge1
unfolding unit_read
returns-then-reading-ge1 c = search picks

pub returns : goal.returns
unfolding unit_read
returns c = rw (← c.wide.ensures) (search picks)
