-- `order_search::entries_passed` counts entry by entry. Assumes nothing.
use Rattle.std.proofs.Common.{◌≡◌, ℕ, ◌+◌, Bool, List, get_or}
use lib.Ieee.{Float, nan, le}
use Rattle.order_search.specs.Search.{how_many}
use Rattle.order_search.proofs.entries_passed.Given as goal

-- whether an entry is not above a number
abbrev pub passes : List Float → ℕ → Float → ℕ → Bool
passes column base at i = le (get_or column (base + i) nan) at

abbrev pub invariant-loop-entry : goal.invariant-loop-entry
invariant-loop-entry l = l.passed ≡ how_many (passes l.column l.base l.at) l.entry-index
