use lib.Ieee.{Float}
use Rattle.std.proofs.Common.{◌≡◌, length, sym, ap, ◌∙◌, arith}
use Rattle.order.specs.Entries.{entries}
use Rattle.process_sm_walk.specs.Chart.{last_tempo, tempos_by0, opening_tempo}
use Rattle.process_sm_walk.proofs.Opening.{first-is, tempo-on, tempo-off, tempo-end, tempos-on, tempos-off, tempos-end}
use Rattle.process_sm_walk.proofs.opening_tempo.Goals as goal

pub loop-at-init : goal.loop-at-init
loop-at-init c = (ap (λ (t : Float). last_tempo t (entries c.args.beats.now c.args.values.now)) (c.first_tempo-tempo.ensures ∙ sym (first-is c.args.beats.now c.args.values.now c.requires)), omega arith)

pub loop-at-preserved : goal.loop-at-preserved
loop-at-preserved c = (sym (tempo-on c.args.beats.now c.args.values.now c.requires c.loop-at.at c.loop-at.tempo c.loop-at-test.true c.if-beat.true) ∙ c.loop-at.invariant.0, (let k = tempos-on c.args.beats.now c.args.values.now c.requires c.loop-at.at c.loop-at-test.true c.if-beat.true in let i = c.loop-at.invariant.1 in omega arith))

pub returns-else-beat : goal.returns-else-beat
returns-else-beat c =
    let beats = c.args.beats.now in
    let values = c.args.values.now in
    let t : c.loop-at.tempo ≡ opening_tempo (entries beats values) = sym (tempo-off beats values c.requires c.loop-at.at c.loop-at.tempo c.loop-at-test.true c.if-beat.false) ∙ c.loop-at.invariant.0 in
    let k = tempos-off beats values c.requires c.loop-at.at c.loop-at-test.true c.if-beat.false in
    let n : c.loop-at.at ≡ tempos_by0 (entries beats values) = omega (arith, k, c.loop-at.invariant.1) in
    c.opener_at.ensures ∙ rw (t, n)

pub returns : goal.returns
returns c =
    let beats = c.args.beats.now in
    let values = c.args.values.now in
    let t : c.loop-at.tempo ≡ opening_tempo (entries beats values) = sym (tempo-end beats values c.requires c.loop-at.at c.loop-at.tempo c.loop-at-test.false) ∙ c.loop-at.invariant.0 in
    let k = tempos-end beats values c.requires c.loop-at.at c.loop-at-test.false in
    let n : length beats ≡ tempos_by0 (entries beats values) = omega (arith, k, c.loop-at.invariant.1) in
    c.opener_at-2.ensures ∙ rw (t, n)
