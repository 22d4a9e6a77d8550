-- `assembly_marks::all_the_same` keeps the worst of a column, and that is none. Assumes nothing.
use Prim.Native.Nat.{ℕ, ◌+◌}
use mathlib.Core.Path.{refl}
use mathlib.Core.Bool.{Bool}
use lib.Dec.{eqb}
use lib.ListN.{drop, get_or}
use Rattle.limits.specs.Numbers.{every}
use Rattle.limits.proofs.WorstSoFar.{worst_turn, worst_last, every-parts, every-none}
use Rattle.assembly_marks.specs.AssembledMarks.{all_the_same}
use Rattle.assembly_marks.proofs.SameMarks.{none_differ}
use Rattle.assembly_marks.proofs.all_the_same.Goals as goal

pub returns-then-marks-eq0 : goal.returns-then-marks-eq0
returns-then-marks-eq0 c = none_differ c.args.marks.now c.if-marks-eq0.true

pub loop-mark-init : goal.loop-mark-init
loop-mark-init c = refl

pub loop-mark-preserved : goal.loop-mark-preserved
loop-mark-preserved c =
    let marks = c.args.marks.now in
    let test : ℕ → Bool = λ mark. eqb mark (get_or marks 0 0) in
    let loop = c.loop-mark in
    let known = rw (every-parts test marks loop.mark-index 0 c.loop-mark-test.true) at loop.invariant in
    rw c.worse_of-worst.ensures (worst_turn loop.worst c.one_other.result (test (get_or marks loop.mark-index 0)) (every test (drop (loop.mark-index + 1) marks)) (every test marks) c.one_other.ensures known)

pub returns : goal.returns
unfolding all_the_same
returns c =
    let marks = c.args.marks.now in
    let test : ℕ → Bool = λ mark. eqb mark (get_or marks 0 0) in
    let loop = c.loop-mark in
    worst_last loop.worst (every test marks) (rw (every-none test marks loop.mark-index c.loop-mark-test.false) at loop.invariant)
