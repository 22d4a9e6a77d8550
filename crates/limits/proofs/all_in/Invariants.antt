-- `limits::all_in` counts the numbers of a column that are not in the range, and there are none. Assumes nothing.
use Rattle.limits.specs.Numbers.{in_range}
use Rattle.limits.proofs.Every.{Counted}
use Rattle.limits.proofs.all_in.Given as goal

abbrev pub invariant-loop-x : goal.invariant-loop-x
invariant-loop-x g l = Counted (in_range l.range) (g.R.Real.numbers l.column) l.x-index l.outside
