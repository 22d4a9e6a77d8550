-- `clock_bench::lay_events` lays the list, event by event. Assumes nothing.
use Rattle.std.proofs.Common.{◌≡◌, arith, eq-eqb, ne_eqb}
use lib.Ieee.{of_bits}
use Rattle.chart.specs.Timing.{timing}
use Rattle.rows.proofs.BackFromBits.{back}
use Rattle.clock_bench.proofs.ListGrows.{begun, spot-fits, spent, full, turned}
use Rattle.clock_bench.proofs.lay_events.Goals as goal

pub loop-i-init : goal.loop-i-init
unfolding of_bits
loop-i-init c = let a = c.args in begun a.most (timing a.tempo_beats.now a.tempo_values.now a.stop_beats.now a.stop_values.now a.delay_beats.now a.delay_values.now a.warp_beats.now a.warp_lengths.now) a.rows.now a.kinds.now a.numbers.now

pub returns-then-kind-eq-NONE_LEFT : goal.returns-then-kind-eq-NONE_LEFT
returns-then-kind-eq-NONE_LEFT c =
    let s = c in
    let a = s.args in
    let l = c.loop-i in
    spent a.most (timing a.tempo_beats.now a.tempo_values.now a.stop_beats.now a.stop_values.now a.delay_beats.now a.delay_values.now a.warp_beats.now a.warp_lengths.now) a.rows.now a.kinds.now a.numbers.now l.rows l.kinds l.numbers l.spot l.i l.invariant c.next_head-head.result c.next_head-head.ensures (eq-eqb _ 5 c.if-kind-eq-NONE_LEFT.true)

pub spot_past-spot-requires : goal.spot_past-spot-requires
spot_past-spot-requires c =
    let s = c in
    let a = s.args in
    let l = c.loop-i in
    spot-fits a.most (timing a.tempo_beats.now a.tempo_values.now a.stop_beats.now a.stop_values.now a.delay_beats.now a.delay_values.now a.warp_beats.now a.warp_lengths.now) a.rows.now a.kinds.now a.numbers.now l.rows l.kinds l.numbers l.spot l.i l.invariant c.loop-i-test.true s.requires.0 (omega (arith, s.well_formed.1.1.1.1.1.1.1.1.1.0.1))

pub loop-i-preserved : goal.loop-i-preserved
loop-i-preserved c =
    let s = c in
    let a = s.args in
    let l = c.loop-i in
    let head = c.next_head-head.result in
    rw (back head.row (record { sfits = c.struct_told-1.given.0.1 }), c.spot_past-spot.ensures)
    (turned a.most (timing a.tempo_beats.now a.tempo_values.now a.stop_beats.now a.stop_values.now a.delay_beats.now a.delay_values.now a.warp_beats.now a.warp_lengths.now) a.rows.now a.kinds.now a.numbers.now l.rows l.kinds l.numbers l.spot l.i l.invariant head c.brings-number.result c.next_head-head.ensures c.brings-number.ensures (ne_eqb _ 5 c.if-kind-eq-NONE_LEFT.false) c.loop-i-test.true s.requires.0 s.requires.1 s.requires.2)

pub returns : goal.returns
returns c =
    let s = c in
    let a = s.args in
    let l = c.loop-i in
    let all : l.i ≡ a.most = omega arith in
    rw all at (full a.most (timing a.tempo_beats.now a.tempo_values.now a.stop_beats.now a.stop_values.now a.delay_beats.now a.delay_values.now a.warp_beats.now a.warp_lengths.now) a.rows.now a.kinds.now a.numbers.now l.rows l.kinds l.numbers l.spot l.i l.invariant c.loop-i-test.false)
