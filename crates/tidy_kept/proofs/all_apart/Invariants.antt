-- `tidy_kept::all_apart` counts the values that are near the one before. Assumes nothing.
use Prim.Native.Nat.{◌-◌}
use Rattle.limits.proofs.EachTwo.{CountedTwo}
use Rattle.tidy_kept.specs.Near.{far_from}
use Rattle.tidy_kept.proofs.all_apart.Given as goal

abbrev pub invariant-loop-i : goal.invariant-loop-i
invariant-loop-i l = CountedTwo far_from l.values (l.i - 1) l.fail
