-- `tidy_marks::to_marks` reads each mark back, as far as both columns go. Assumes nothing.
use Rattle.columns.proofs.LaidEach.{LayingEach}
use Rattle.tidy_marks.specs.inside.MarkNumbers.{number_mark}
use Rattle.tidy_marks.proofs.to_marks.Given as goal

abbrev pub invariant-loop-i : goal.invariant-loop-i
invariant-loop-i l = LayingEach number_mark l.numbers l.initial.to l.n l.to l.i
