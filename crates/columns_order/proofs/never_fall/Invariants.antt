-- `columns_order::never_fall` counts the neighbours that fail. Assumes nothing.
use Rattle.std.proofs.Common.{◌-◌}
use Rattle.limits.specs.Neighbours.{not_falling}
use Rattle.limits.proofs.EachTwo.{CountedTwo}
use Rattle.columns_order.proofs.never_fall.Given as goal

abbrev pub invariant-loop-i : goal.invariant-loop-i
invariant-loop-i g l = CountedTwo not_falling (g.R.Real.numbers l.column) (l.i - 1) l.fail
