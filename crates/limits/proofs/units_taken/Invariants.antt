-- `limits::units_taken` counts the numbers of a column that are no units, and there are none. Assumes nothing.
use Rattle.limits.specs.Numbers.{is_unit}
use Rattle.limits.proofs.Every.{Counted}
use Rattle.limits.proofs.units_taken.Given as goal

abbrev pub invariant-loop-unit : goal.invariant-loop-unit
invariant-loop-unit l = Counted is_unit l.units l.unit-index l.outside
