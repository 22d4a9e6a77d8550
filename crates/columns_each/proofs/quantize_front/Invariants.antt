-- `columns_each::quantize_front` writes over each of the first entries. Assumes nothing.
use Rattle.columns_each.proofs.InTwoLoops.{Rewriting, move}
use Rattle.columns_each.proofs.quantize_front.Given as goal

abbrev pub invariant-loop-i : goal.invariant-loop-i
invariant-loop-i l = Rewriting move l.initial.column l.n l.column l.i
