-- `order_search::place_of` takes the quarters that pass, until sixteen or less are left to count. Assumes nothing.
use Rattle.std.proofs.Common.{ℕ, Bool, List, length, get_or}
use lib.Ieee.{Float, nan, le}
use Rattle.order_search.proofs.Quartered.{Quartering}
use Rattle.order_search.proofs.place_of.Given as goal

-- whether an entry is not above a number
abbrev pub passes : List Float → Float → ℕ → Bool
passes column at i = le (get_or column i nan) at

abbrev pub invariant-loop-size : goal.invariant-loop-size
invariant-loop-size l = Quartering (passes l.column l.at) (length l.column) l.base l.size

abbrev pub decreases-loop-size : goal.decreases-loop-size
decreases-loop-size l = l.size
