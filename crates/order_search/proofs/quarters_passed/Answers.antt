-- `order_search::quarters_passed` counts the three. Assumes nothing.
use Rattle.std.proofs.Common.{◌≡◌, ℕ, ◌+◌, ◌-◌, ◌*◌, Bool, List, get_or, arith}
use lib.Ieee.{Float, nan, le}
use Rattle.order_search.proofs.HowMany.{of_three}
use Rattle.order_search.proofs.quarters_passed.Goals as goal

-- whether the last entry of a quarter is not above a number
abbrev passes : List Float → ℕ → ℕ → Float → ℕ → Bool
passes column base part at i = le (get_or column (base + part * (i + 1) - 1) nan) at

pub returns : goal.returns
returns c =
    let second = c in
    let first = second in
    let start = first in
    let one : start.args.base + start.args.part - 1 ≡ start.args.base + start.args.part * 1 - 1 = omega arith in
    rw (first.one_if.ensures.0, second.one_if-2.ensures.0, c.one_if-3.ensures.0, one) (of_three (passes start.args.column.now start.args.base start.args.part start.args.at))
