-- `text_decimal::put_millionths` meets its contract, piece by piece. Assumes nothing.
use Rattle.text_decimal.specs.Dec6.{millionths_text}
use Rattle.text_page.proofs.Joined.{wrote-join}
use Rattle.text_decimal.proofs.put_millionths.Goals as goal

pub returns : goal.returns
unfolding millionths_text
returns c =
    let decimals = c in
    let point = decimals in
    let whole = point in
    wrote-join whole.put_whole-at.ensures (wrote-join point.put_byte-at.ensures decimals.put_six.ensures)
