-- `mend_fates::last_of_row` looks at the next number, where there is one. Assumes nothing.
use Prim.Native.Nat.{◌+◌}
use mathlib.Core.Path.{sym, ap, ◌∙◌}
use mathlib.Core.Bool.{not}
use native.Mathlib.Omega.{arith}
use lib.Dec.{eqb}
use lib.ListN.{get_or}
use Rattle.order.specs.Packed.{upper_half}
use Rattle.mend_fates.proofs.NextOfRow.{last_by_next, last_at_end}
use borrow.Author.Rules.{rules}
use Rattle.mend_fates.proofs.last_of_row.Goals as goal

pub returns-then-i-numbers : goal.returns-then-i-numbers
returns-then-i-numbers c = let given = c.args in sym (last_at_end upper_half 0 given.numbers.now given.i (omega arith))

pub returns-then-numbers-i-eq1 : goal.returns-then-numbers-i-eq1
returns-then-numbers-i-eq1 c = let given = c.args in sym (last_at_end upper_half 0 given.numbers.now given.i (omega arith))

pub returns : goal.returns
returns c =
    let given = c.args in
    rw (c.upper_half.ensures, c.upper_half-2.ensures) (sym (last_by_next upper_half 0 given.numbers.now given.i (omega arith)))
