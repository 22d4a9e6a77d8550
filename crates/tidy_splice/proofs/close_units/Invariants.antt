-- `tidy_splice::close_units` has moved back the entries passed. Assumes nothing.
use Prim.Native.Nat.{◌+◌, ◌-◌}
use Rattle.tidy_kept.proofs.PartReplaced.{Closing}
use Rattle.tidy_splice.proofs.close_units.Given as goal

abbrev pub invariant-loop-i : goal.invariant-loop-i
invariant-loop-i l = Closing l.initial.column l.n l.low l.high l.column (l.low + (l.i - l.high)) l.i
