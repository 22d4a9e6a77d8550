-- `lookup::place_on` goes on to the place of a row. Assumes nothing.
use Rattle.std.proofs.Common.{◌-◌, ◌≤◌, length}
use Rattle.lookup.specs.inside.Finding.{Stands}
use Rattle.lookup.proofs.place_on.Given as goal

abbrev pub invariant-loop-next : goal.invariant-loop-next
invariant-loop-next l = Stands l.beats l.n l.before l.next × (l.before ≤ l.key)

abbrev pub decreases-loop-next : goal.decreases-loop-next
decreases-loop-next l = length l.beats - l.n
