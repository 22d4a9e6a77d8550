-- `text_decimal::put_whole` meets its contract: a number of 64 bits has 20 digits at most. Assumes nothing.
use mathlib.Core.Path.{sym}
use native.Mathlib.Omega.{arith}
use Rattle.text_page.proofs.Joined.{wrote_as}
use Rattle.text_decimal.proofs.DigitParts.{enough}
use Rattle.text_decimal.proofs.put_whole.Goals as goal

pub returns : goal.returns
returns c =
    let start = c in
    wrote_as (sym (enough 20 19 start.args.n (omega arith) (omega arith))) c.put_digits.ensures
