-- `assembly_marks::merge_marks` writes each mark, as far as the room goes. Assumes nothing.
use mathlib.Core.Path.{sym, ◌∙◌}
use native.Mathlib.Omega.{arith}
use Rattle.columns.proofs.LaidEach.{begun, turned, ended}
use Rattle.assembly_marks.proofs.MergedMarks.{merged-at, merged-length}
use Rattle.assembly_marks.proofs.merge_marks.Goals as goal

pub loop-i-init : goal.loop-i-init
loop-i-init c =
    let start = c in
    begun (omega (arith, merged-length start.args.marks.now start.args.made, c.room_of.ensures, c.room_of-given.ensures))

pub bounds-out-i : goal.bounds-out-i
bounds-out-i c = omega (arith, c.loop-i.invariant.many, c.loop-i.invariant.long, c.loop-i-test.true)

pub loop-i-smaller : goal.loop-i-smaller
loop-i-smaller c = omega (arith, c.loop-i-test.true)

pub loop-i-preserved : goal.loop-i-preserved
loop-i-preserved c =
    let start = c in
    let loop = c.loop-i in
    turned loop.invariant 1 c.loop-i-test.true (c.mark_at.ensures ∙ sym (merged-at start.args.marks.now start.args.made loop.i))

pub shape_of-out : goal.shape_of-out
shape_of-out c = c.loop-i.invariant.long

pub returns : goal.returns
returns c = ended c.loop-i.invariant c.loop-i-test.false
