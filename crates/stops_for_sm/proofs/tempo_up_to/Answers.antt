-- `stops_for_sm::tempo_up_to` moves forward. Assumes nothing.
use Rattle.std.proofs.Common.{refl, arith}
use Rattle.stops_for_sm.proofs.TempoForward.{begun, over, later, onward_by_one}
use Rattle.stops_for_sm.proofs.tempo_up_to.Goals as goal

pub loop-next-init : goal.loop-next-init
loop-next-init c =
    (refl, begun c.args.tempo_beats.now c.args.place c.args.beat c.requires)

pub loop-next-preserved : goal.loop-next-preserved
loop-next-preserved c =
    let a = c.args in
    let l = c.loop-next in
    let here = l.invariant.0 in
    (refl, rw here at (onward_by_one a.tempo_beats.now a.place a.beat l.at l.invariant.1 (omega arith) c.well_formed.0.1 (rw here c.if-tempo_beats-next.true)))

pub returns-in-loop-next : goal.returns-in-loop-next
returns-in-loop-next c =
    let a = c.args in
    let l = c.loop-next in
    later a.tempo_beats.now a.place a.beat l.at l.invariant.1 (omega arith) (rw l.invariant.0 c.if-tempo_beats-next.false)

pub returns : goal.returns
returns c =
    let a = c.args in
    let l = c.loop-next in
    over a.tempo_beats.now a.place a.beat l.at l.invariant.1 (omega arith)
