-- `text_decimal::put_eighteen` meets its contract, six digits at a time. Assumes nothing.
use Rattle.text_decimal.proofs.SixDigits.{eighteen_digits}
use Rattle.text_page.proofs.Joined.{wrote-join, wrote_as}
use Rattle.text_decimal.proofs.put_eighteen.Goals as goal

pub returns : goal.returns
returns c =
    let low = c in
    let middle = low in
    let high = middle in
    wrote_as (eighteen_digits high.args.n) (wrote-join high.put_six-at.ensures (wrote-join middle.put_six-at-2.ensures low.put_six.ensures))
