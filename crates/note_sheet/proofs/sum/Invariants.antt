-- `note_sheet::sum` is `total`. Assumes nothing.
use Rattle.note_sheet.proofs.Totals.{Adding}
use Rattle.note_sheet.proofs.sum.Given as goal

abbrev pub invariant-loop-count : goal.invariant-loop-count
invariant-loop-count l = Adding l.counts l.all l.count-index
