-- `columns::lay_each` writes what is made of each entry, as far as both columns go. Assumes nothing.
use Rattle.columns.proofs.LaidEach.{LayingEach}
use Rattle.columns.proofs.lay_each.Given as goal

abbrev pub invariant-loop-i : goal.invariant-loop-i
invariant-loop-i g l = LayingEach (g.M.Each.made l.each) l.from l.initial.to l.n l.to l.i
