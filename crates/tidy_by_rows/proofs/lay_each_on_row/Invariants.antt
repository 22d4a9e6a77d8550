-- `tidy_by_rows::lay_each_on_row` writes each beat on its row, as far as both columns go. Assumes nothing.
use Rattle.rows.specs.RowKey.{beat_on_row}
use Rattle.columns.proofs.LaidEach.{LayingEach}
use Rattle.tidy_by_rows.proofs.lay_each_on_row.Given as goal

abbrev pub invariant-loop-i : goal.invariant-loop-i
invariant-loop-i l = LayingEach beat_on_row l.beats l.initial.to l.n l.to l.i
