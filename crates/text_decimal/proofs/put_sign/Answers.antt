-- `text_decimal::put_sign` meets its contract, with a sign and without. Assumes nothing.
use native.Mathlib.Omega.{arith}
use borrow.Author.Tests.{le-leb, lt-leb}
use Rattle.text_page.proofs.Joined.{wrote_none}
use Rattle.text_decimal.proofs.put_sign.Goals as goal

pub returns-then-pattern-ge2147483648 : goal.returns-then-pattern-ge2147483648
returns-then-pattern-ge2147483648 c =
    let tested = c in
    rw (le-leb 2147483648 tested.args.pattern (omega arith)) c.put_byte.ensures

pub returns : goal.returns
returns c = rw (lt-leb 2147483648 c.args.pattern (omega arith)) (wrote_none _ _)
