-- `assembly_marks::all_the_same` keeps the worst of a column, and that is none. Assumes nothing.
use Prim.Native.Nat.{ℕ}
use mathlib.Core.Path.{◌≡◌}
use lib.Dec.{eqb}
use lib.ListN.{drop}
use Rattle.limits.specs.Numbers.{every}
use Rattle.limits.proofs.WorstSoFar.{passing}
use Rattle.assembly_marks.proofs.all_the_same.Given as goal

abbrev pub invariant-loop-mark : goal.invariant-loop-mark
invariant-loop-mark l = passing l.worst (every (λ (mark : ℕ). eqb mark l.first) (drop l.mark-index l.marks)) ≡ every (λ (mark : ℕ). eqb mark l.first) l.marks
