-- `report_form::letter` meets its contract, test by test. Assumes nothing.
use Rattle.picks.proofs.Rules.{picks}
use Rattle.report_form.specs.Form.{letter_of}
use Rattle.report_form.proofs.letter.Goals as goal

pub returns-then-byte-lt97 : goal.returns-then-byte-lt97
unfolding letter_of
returns-then-byte-lt97 c = search picks

pub returns-then-byte-gt122 : goal.returns-then-byte-gt122
unfolding letter_of
returns-then-byte-gt122 c = search picks

pub returns-then-reading-ge6 : goal.returns-then-reading-ge6
unfolding letter_of
returns-then-reading-ge6 c = search picks

pub returns : goal.returns
unfolding letter_of
returns c =
    let made = rw c.wide.ensures at c.grow.ensures in
    search picks
