-- `tidy_splice::open_place` has moved on the entries from the place in hand on. Assumes nothing.
use Prim.Native.Nat.{◌≤◌}
use Rattle.tidy_kept.proofs.PartReplaced.{Opening}
use Rattle.tidy_splice.proofs.open_place.Given as goal

abbrev pub invariant-loop-i : goal.invariant-loop-i
invariant-loop-i l = (l.at ≤ l.i) × Opening l.initial.column l.n l.column l.i
