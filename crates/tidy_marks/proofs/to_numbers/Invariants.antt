-- `tidy_marks::to_numbers` writes each mark as a number, as far as both columns go. Assumes nothing.
use Rattle.columns.proofs.LaidEach.{LayingEach}
use Rattle.tidy_marks.specs.inside.MarkNumbers.{mark_number}
use Rattle.tidy_marks.proofs.to_numbers.Given as goal

abbrev pub invariant-loop-i : goal.invariant-loop-i
invariant-loop-i l = LayingEach mark_number l.marks l.initial.to l.n l.to l.i
