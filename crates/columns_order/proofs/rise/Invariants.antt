-- `columns_order::rise` counts the neighbours that fail. Assumes nothing.
use Rattle.std.proofs.Common.{◌-◌}
use Rattle.std.specs.Float.Ieee.{lt}
use Rattle.limits.proofs.EachTwo.{CountedTwo}
use Rattle.columns_order.proofs.rise.Given as goal

abbrev pub invariant-loop-i : goal.invariant-loop-i
invariant-loop-i g l = CountedTwo lt (g.R.Real.numbers l.column) (l.i - 1) l.fail
