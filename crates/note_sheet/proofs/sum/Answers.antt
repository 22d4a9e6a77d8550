-- `note_sheet::sum` is `total`. Assumes nothing.
use native.Mathlib.Omega.{arith}
use Rattle.note_sheet.proofs.Totals.{begun, turned, no_more, ended}
use Rattle.note_sheet.proofs.sum.Goals as goal

pub loop-count-init : goal.loop-count-init
loop-count-init c = begun _

pub overflow_add-all : goal.overflow_add-all
overflow_add-all c = let h = no_more c.loop-count.invariant c.loop-count-test.true in record { fits = omega (arith, h, c.requires) }

pub loop-count-preserved : goal.loop-count-preserved
loop-count-preserved c = turned c.loop-count.invariant c.loop-count-test.true

pub returns : goal.returns
returns c = ended c.loop-count.invariant c.loop-count-test.false
