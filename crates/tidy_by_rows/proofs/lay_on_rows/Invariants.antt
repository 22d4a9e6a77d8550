-- `tidy_by_rows::lay_on_rows` writes the beat of each row, as far as both columns go. Assumes nothing.
use Rattle.tidy_by_rows.specs.ByMarks.{on_marked_row}
use Rattle.columns.proofs.LaidEach.{LayingEach}
use Rattle.tidy_by_rows.proofs.lay_on_rows.Given as goal

abbrev pub invariant-loop-i : goal.invariant-loop-i
invariant-loop-i l = LayingEach on_marked_row l.beats l.initial.to l.n l.to l.i
