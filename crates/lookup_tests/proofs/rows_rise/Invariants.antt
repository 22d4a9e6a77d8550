-- `lookup_tests::rows_rise` counts the rows that do not rise, and there are none. Assumes nothing.
use Prim.Native.Nat.{◌-◌}
use Rattle.lookup_tests.proofs.RowsRise.{Falls}
use Rattle.lookup_tests.proofs.rows_rise.Given as goal

abbrev pub invariant-loop-i : goal.invariant-loop-i
invariant-loop-i l = Falls l.beats (l.i - 1) l.falls
