-- `columns::copy_turned` writes each number, the last first, as far as both columns go. Assumes nothing.
use mathlib.Core.List.{reverse}
use lib.Ieee.{Float}
use Rattle.columns.proofs.LaidEach.{LayingEach}
use Rattle.columns.proofs.copy_turned.Given as goal

abbrev pub invariant-loop-i : goal.invariant-loop-i
invariant-loop-i l = LayingEach (λ (x : Float). x) (reverse l.from) l.initial.to l.n l.to l.i
