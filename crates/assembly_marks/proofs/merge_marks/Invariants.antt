-- `assembly_marks::merge_marks` writes each mark, as far as the room goes. Assumes nothing.
use Prim.Native.Nat.{ℕ}
use Rattle.columns.proofs.LaidEach.{LayingEach}
use Rattle.assembly_marks.specs.AssembledMarks.{merged_marks}
use Rattle.assembly_marks.proofs.merge_marks.Given as goal

abbrev pub invariant-loop-i : goal.invariant-loop-i
invariant-loop-i l = LayingEach (λ (mark : ℕ). mark) (merged_marks l.marks l.made) l.initial.out l.end l.out l.i
