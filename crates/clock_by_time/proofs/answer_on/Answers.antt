-- `clock_by_time::answer_on` answers a time, and stays on the way. Assumes nothing.
use borrow.Author.Tests.{eq-eqb, ne_eqb}
use Rattle.chart.specs.Timing.{Timing, timing}
use Rattle.clock_walk.proofs.OverByATime.{passed_by_fits}
use Rattle.clock_by_time.specs.inside.OnTheWay.{info_from}
use Rattle.clock_by_time.proofs.LaterTimes.{way_goes_on}
use Rattle.clock_by_time.proofs.answer_on.Goals as goal

pub returns-then-number-ne-TAKEN : goal.returns-then-number-ne-TAKEN
unfolding info_from
returns-then-number-ne-TAKEN c =
    let tested = c in
    let s = tested in
    (rw (c.refused-info.ensures, ← tested.time_number-number.ensures, ne_eqb _ 0 c.if-number-ne-TAKEN.true), s.requires)

pub info_of-info-requires : goal.info_of-info-requires
info_of-info-requires c =
    let s = c in
    let a = s.args in
    let t : Timing = timing a.tempo_beats.now a.tempo_values.now a.stop_beats.now a.stop_values.now a.delay_beats.now a.delay_values.now a.warp_beats.now a.warp_lengths.now in
    let g = s.well_formed in
    rw c.walk_on-at.ensures (passed_by_fits _ a.early t a.start g.1.1.1.1.1.0.1 g.1.1.1.1.1.1.1.0.1 g.1.1.1.1.1.1.1.1.1.0.1 g.1.1.1.1.1.1.1.1.1.1.1.0.1)

pub returns : goal.returns
unfolding info_from
returns c =
    let informed = c in
    let walked = informed in
    let tested = walked in
    let s = tested in
    let a = s.args in
    let t : Timing = timing a.tempo_beats.now a.tempo_values.now a.stop_beats.now a.stop_values.now a.delay_beats.now a.delay_values.now a.warp_beats.now a.warp_lengths.now in
    (rw (← walked.walk_on-at.ensures, ← tested.time_number-number.ensures, eq-eqb _ 0 walked.if-number-ne-TAKEN.false) informed.info_of-info.ensures, way_goes_on a.early t a.start _ walked.walk_on-at.result walked.walk_on-at.ensures)
