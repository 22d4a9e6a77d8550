-- `columns_each::count_front` writes over each of the first entries, and counts those that differ. Assumes nothing.
use Rattle.std.proofs.Common.{sym, ap, ◌∙◌, arith, length-take-le}
use lib.Ieee.{nan}
use Rattle.rows.specs.Rows.{on_grid32}
use Rattle.limits.specs.Numbers.{miss}
use Rattle.limits.proofs.HowManyFail.{round-start, round-turn, round-end}
use Rattle.columns.proofs.LaidEach.{ended}
use Rattle.columns_each.proofs.InTwoLoops.{rewriting_none, rewriting_here, rewriting_more, move}
use Rattle.columns_each.proofs.count_front.Goals as goal

pub loop-i-preserved : goal.loop-i-preserved
loop-i-preserved c =
    let start = c in
    let so = c.loop-i.invariant in
    let more = c.loop-i-test.true in
    let one = c.apart in
    let here = rewriting_here move nan so.0 more start.requires in (
      rewriting_more move nan so.0 more start.requires c.quantize_beat_f32-moved.ensures,
      round-turn on_grid32 one.result nan (omega (arith, length-take-le start.args.n start.args.column.now start.requires)) (one.ensures ∙ sym (ap (miss on_grid32) here)) c.wrapping_add_u32-off.ensures.value so.1,
    )

pub returns : goal.returns
returns c =
    let start = c in
    record {
      moved = ended c.loop-i.invariant.0.laying c.loop-i-test.false;
      counted = round-end on_grid32 (omega (arith, length-take-le start.args.n start.args.column.now start.requires)) c.loop-i.invariant.1;
    }

pub loop-i-init : goal.loop-i-init
loop-i-init c = (rewriting_none move c.args.column.now c.args.n c.requires, round-start on_grid32 _)

pub bounds-column-i : goal.bounds-column-i
bounds-column-i c = omega (arith, c.loop-i.invariant.0.laying.long, c.requires, c.loop-i-test.true)

pub apart-requires : goal.apart-requires
apart-requires c = c.quantize_beat_f32-moved.ensures

pub bounds-column-i-in-loop-i : goal.bounds-column-i-in-loop-i
bounds-column-i-in-loop-i c = omega (arith, c.loop-i.invariant.0.laying.long, c.requires, c.loop-i-test.true)

pub shape_of-column : goal.shape_of-column
shape_of-column c = c.loop-i.invariant.0.laying.long
