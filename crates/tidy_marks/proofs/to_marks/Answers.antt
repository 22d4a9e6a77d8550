-- `tidy_marks::to_marks` reads each mark back, as far as both columns go. Assumes nothing.
use native.Mathlib.Omega.{arith}
use lib.Ieee.{nan}
use Rattle.columns.proofs.LaidEach.{turned, ended}
use borrow.Author.Rules.{rules}
use Rattle.tidy_marks.proofs.to_marks.Goals as goal

pub loop-i-preserved : goal.loop-i-preserved
loop-i-preserved c = turned c.loop-i.invariant nan (omega arith) (search rules)

pub returns : goal.returns
returns c = ended c.loop-i.invariant (omega arith)
