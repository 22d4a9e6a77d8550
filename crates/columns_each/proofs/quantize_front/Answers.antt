-- `columns_each::quantize_front` writes over each of the first entries. Assumes nothing.
use Rattle.std.proofs.Common.{arith}
use lib.Ieee.{nan}
use Rattle.columns.proofs.LaidEach.{ended}
use Rattle.columns_each.proofs.InTwoLoops.{rewriting_none, rewriting_more, move}
use Rattle.columns_each.proofs.quantize_front.Goals as goal

pub loop-i-preserved : goal.loop-i-preserved
loop-i-preserved c = rewriting_more move nan c.loop-i.invariant c.loop-i-test.true c.requires c.quantize_beat_f32.ensures

pub loop-i-init : goal.loop-i-init
loop-i-init c = rewriting_none move c.args.column.now c.args.n c.requires

pub bounds-column-i : goal.bounds-column-i
bounds-column-i c = omega (arith, c.loop-i.invariant.laying.long, c.requires, c.loop-i-test.true)

pub bounds-column-i-in-loop-i : goal.bounds-column-i-in-loop-i
bounds-column-i-in-loop-i c = omega (arith, c.loop-i.invariant.laying.long, c.requires, c.loop-i-test.true)

pub shape_of-column : goal.shape_of-column
shape_of-column c = c.loop-i.invariant.laying.long

pub returns : goal.returns
returns c = ended c.loop-i.invariant.laying c.loop-i-test.false
