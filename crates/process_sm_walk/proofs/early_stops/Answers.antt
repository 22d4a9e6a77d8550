use Rattle.std.proofs.Common.{◌≡◌, length, sym, ◌∙◌, arith}
use Rattle.order.specs.Entries.{entries}
use Rattle.process_sm_walk.specs.Chart.{stops_before, offset_of}
use Rattle.process_sm_walk.proofs.Opening.{stop-on, stop-off, stop-end, stops-on, stops-off, stops_end}
use Rattle.process_sm_walk.proofs.early_stops.Goals as goal

pub loop-at-preserved : goal.loop-at-preserved
loop-at-preserved c = (sym (stop-on c.args.beats.now c.args.values.now c.requires c.loop-at.at c.loop-at.offset c.loop-at-test.true c.if-beat.true) ∙ c.loop-at.invariant.0, (let k = stops-on c.args.beats.now c.args.values.now c.requires c.loop-at.at c.loop-at-test.true c.if-beat.true in let i = c.loop-at.invariant.1 in omega arith))

pub returns-else-beat : goal.returns-else-beat
returns-else-beat c =
    let beats = c.args.beats.now in
    let values = c.args.values.now in
    let t : c.loop-at.offset ≡ offset_of (entries beats values) = sym (stop-off beats values c.requires c.loop-at.at c.loop-at.offset c.loop-at-test.true c.if-beat.false) ∙ c.loop-at.invariant.0 in
    let k = stops-off beats values c.requires c.loop-at.at c.loop-at-test.true c.if-beat.false in
    let n : c.loop-at.at ≡ stops_before (entries beats values) = omega (arith, k, c.loop-at.invariant.1) in
    rw (t, n)

pub returns : goal.returns
returns c =
    let beats = c.args.beats.now in
    let values = c.args.values.now in
    let t : c.loop-at.offset ≡ offset_of (entries beats values) = sym (stop-end beats values c.requires c.loop-at.at c.loop-at.offset c.loop-at-test.false) ∙ c.loop-at.invariant.0 in
    let k = stops_end beats values c.requires c.loop-at.at c.loop-at-test.false in
    let n : length beats ≡ stops_before (entries beats values) = omega (arith, k, c.loop-at.invariant.1) in
    rw (t, n)
