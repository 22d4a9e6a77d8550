-- `text_decimal::put_doubled` meets its contract, in one word and in parts. Assumes nothing.
use lib.Pow.{shl_exact}
use mathlib.Core.Path.{ap}
use native.Mathlib.Omega.{arith}
use Rattle.text_page.proofs.Joined.{wrote_as}
use Rattle.text_decimal.specs.Dec6.{whole_text}
use Rattle.text_decimal.proofs.put_doubled.Goals as goal

pub returns-then-i-le40 : goal.returns-then-i-le40
returns-then-i-le40 c =
    let start = c in
    wrote_as (ap whole_text (shl_exact {a = start.args.m} 24 start.args.i 64 start.requires.0 (omega arith))) c.put_whole.ensures

pub returns : goal.returns
returns c = wrote_as (ap whole_text c.in_parts.ensures.1) c.put_parts.ensures
