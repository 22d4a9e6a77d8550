-- `assembly_tempos::cast_column` writes each number, as far as both columns go. Assumes nothing.
use lib.Ieee.{Float}
use Rattle.columns.proofs.LaidEach.{LayingEach}
use Rattle.assembly_tempos.proofs.cast_column.Given as goal

abbrev pub invariant-loop-i : goal.invariant-loop-i
invariant-loop-i l = LayingEach (λ (x : Float). x) l.from l.initial.to l.n l.to l.i
