-- `lookup_tests::rows_taken` counts the rows beyond the limit, and there are none. Assumes nothing.
use Rattle.limits.proofs.Every.{Counted}
use Rattle.limits.specs.Numbers.{row_in}
use Rattle.lookup_tests.proofs.rows_taken.Given as goal

abbrev pub invariant-loop-row : goal.invariant-loop-row
invariant-loop-row l = Counted row_in l.rows l.row-index l.beyond
