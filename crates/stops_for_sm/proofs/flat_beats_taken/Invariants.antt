-- `stops_for_sm::flat_beats_taken` goes two by two, up to one that is not taken. Assumes nothing.
use Rattle.std.proofs.Common.{◌≡◌, ◌-◌, length, drop}
use Rattle.limits.specs.declared.Kind.TheVariants.{Beat}
use Rattle.limits.specs.Numbers.{range_of}
use Rattle.stops_for_sm.specs.Filling.{beats_in}
use Rattle.stops_for_sm.proofs.flat_beats_taken.Given as goal

abbrev pub invariant-loop-i : goal.invariant-loop-i
invariant-loop-i l = beats_in (range_of Beat) (drop l.i l.list) ≡ beats_in (range_of Beat) l.list

abbrev pub decreases-loop-i : goal.decreases-loop-i
decreases-loop-i l = length l.list - l.i
