-- `assembly_moved::count_each` counts the entries that stay and are off the grid, as far as both columns go. Assumes nothing.
use Rattle.limits.proofs.HowManyFail.{CountedRound}
use Rattle.order.specs.Entries.{entries, first}
use Rattle.columns_each.proofs.OffGridCounts.{goes_or_on}
use Rattle.assembly_moved.specs.MovedRaw.{stays_in}
use Rattle.assembly_moved.proofs.count_each.Given as goal

abbrev pub invariant-loop-i : goal.invariant-loop-i
invariant-loop-i l = CountedRound (goes_or_on (stays_in l.format) first) (entries l.beats l.values) l.i l.moved
