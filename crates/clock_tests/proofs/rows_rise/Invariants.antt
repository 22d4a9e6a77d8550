-- `clock_tests::rows_rise` goes row by row. Assumes nothing.
use Rattle.std.proofs.Common.{◌+◌}
use Rattle.clock_tests.proofs.RowByRow.{Rising}
use Rattle.clock_tests.proofs.rows_rise.Given as goal

abbrev pub invariant-loop-beat : goal.invariant-loop-beat
invariant-loop-beat l = Rising l.beats l.last (l.beat-index + 1)
