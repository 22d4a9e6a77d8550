-- `tidy_by_rows::allowed_rise` counts the beats that are on no later row than the one before. Assumes nothing.
use Prim.Native.Nat.{◌-◌}
use Rattle.limits.proofs.EachTwo.{CountedTwo}
use Rattle.tidy_by_rows.specs.ByMarks.{row_rises}
use Rattle.tidy_by_rows.proofs.allowed_rise.Given as goal

abbrev pub invariant-loop-i : goal.invariant-loop-i
invariant-loop-i l = CountedTwo row_rises l.beats (l.i - 1) l.fail
