-- `stops_for_sm::flat_values_taken` goes two by two, up to one that is not taken. Assumes nothing.
use Rattle.std.proofs.Common.{◌≡◌, ◌-◌, ◌≤◌, length, drop}
use Rattle.limits.specs.declared.Kind.TheVariants.{Pause}
use Rattle.limits.specs.Numbers.{range_of}
use Rattle.stops_for_sm.specs.Filling.{values_in}
use Rattle.stops_for_sm.proofs.flat_values_taken.Given as goal

abbrev pub invariant-loop-i : goal.invariant-loop-i
invariant-loop-i l = (1 ≤ l.i) × (values_in (range_of Pause) (drop (l.i - 1) l.list) ≡ values_in (range_of Pause) l.list)

abbrev pub decreases-loop-i : goal.decreases-loop-i
decreases-loop-i l = length l.list - l.i
