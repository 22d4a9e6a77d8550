-- `tidy_marks::to_numbers` writes each mark as a number, as far as both columns go. Assumes nothing.
use native.Mathlib.Omega.{arith}
use Rattle.columns.proofs.LaidEach.{turned, ended}
use borrow.Author.Rules.{rules}
use Rattle.tidy_marks.proofs.to_numbers.Goals as goal

pub loop-i-preserved : goal.loop-i-preserved
loop-i-preserved c = turned c.loop-i.invariant 0 (omega arith) (search rules)

pub returns : goal.returns
returns c = ended c.loop-i.invariant (omega arith)
