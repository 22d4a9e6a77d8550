-- `columns_order::falls_throughout` compares each number with the next. Assumes nothing.
use Rattle.std.proofs.Common.{◌≡◌, ◌-◌, drop}
use Rattle.limits.specs.Neighbours.{every_two}
use Rattle.columns_order.specs.Falling.{falling}
use Rattle.columns_order.proofs.falls_throughout.Given as goal

abbrev pub invariant-loop-i : goal.invariant-loop-i
invariant-loop-i g l = let numbers = g.R.Real.numbers l.column in every_two falling (drop (l.i - 1) numbers) ≡ every_two falling numbers
