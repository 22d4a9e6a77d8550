-- `text_decimal::put_finite` meets its contract: millionths, and a whole number. Assumes nothing.
use mathlib.Core.Path.{ap, sym, ◌∙◌}
use native.Mathlib.Omega.{arith}
use Rattle.text_decimal.proofs.SixDigits.{whole-text}
use Rattle.text_decimal.proofs.TextOfPattern.{below-units, whole-units}
use Rattle.text_page.proofs.Joined.{wrote_as, wrote-join}
use Rattle.text_decimal.specs.Dec6.{millionths_text}
use Rattle.text_decimal.proofs.put_finite.Goals as goal

pub returns-then-j-lt149 : goal.returns-then-j-lt149
returns-then-j-lt149 c =
    let rounded = c in
    let given = rounded.args in
    wrote_as (ap millionths_text (rounded.nearest_shifted.ensures ∙ sym (below-units given.m given.j _ (omega arith)))) c.put_millionths.ensures

pub returns : goal.returns
returns c =
    let whole = c in
    let given = whole.args in
    wrote_as (whole-text _ ∙ ap millionths_text (sym (whole-units given.m given.j _ (omega arith)))) (wrote-join whole.put_doubled-at.ensures c.put_bytes.ensures)
