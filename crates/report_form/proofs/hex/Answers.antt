-- `report_form::hex` meets its contract, test by test. Assumes nothing.
use Rattle.picks.proofs.Rules.{picks}
use Rattle.report_form.specs.Form.{hex_of}
use Rattle.report_form.proofs.hex.Goals as goal

pub returns-then-reading-ge16 : goal.returns-then-reading-ge16
unfolding hex_of
returns-then-reading-ge16 c = search picks

pub returns-then-value-ge16 : goal.returns-then-value-ge16
unfolding hex_of
returns-then-value-ge16 c = rw (← c.hex_value-value.ensures) (search picks)

pub returns : goal.returns
unfolding hex_of
returns c =
    let made = rw c.wide.ensures at c.grow.ensures in
    rw (← c.hex_value-value.ensures) (search picks)
