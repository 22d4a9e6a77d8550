-- `report_form::character` meets its contract, test by test. Assumes nothing.
use Rattle.picks.proofs.Rules.{picks}
use Rattle.report_form.specs.Form.{character_of}
use Rattle.report_form.proofs.character.Goals as goal

pub returns-then-reading-eq0 : goal.returns-then-reading-eq0
unfolding character_of
returns-then-reading-eq0 c = search picks

pub returns-then-reading-eq1 : goal.returns-then-reading-eq1
unfolding character_of
returns-then-reading-eq1 c = search picks

pub returns-then-reading-eq4 : goal.returns-then-reading-eq4
unfolding character_of
returns-then-reading-eq4 c = search picks

pub returns-then-reading-eq6 : goal.returns-then-reading-eq6
unfolding character_of
returns-then-reading-eq6 c = search picks

pub returns : goal.returns
unfolding character_of
returns c = search picks
