-- `text_page::put_digits` meets its contract, by the fewest digits. Assumes nothing.
use mathlib.Core.Path.{◌∙◌}
use native.Mathlib.Omega.{arith}
use Rattle.text_page.proofs.Joined.{wrote_as}
use Rattle.text_page.proofs.DecimalDigits.{fewest_digits, twenty_hold}
use Rattle.text_page.proofs.put_digits.Goals as goal

pub returns : goal.returns
returns c =
    let spelt = c in
    let n = spelt.args.n in
    let fewest = spelt.decimal-count.ensures.len in
    wrote_as (spelt.decimal-count.ensures.digits ∙ fewest_digits _ 20 n (twenty_hold _ n (omega arith) fewest) fewest) c.put_bytes.ensures
