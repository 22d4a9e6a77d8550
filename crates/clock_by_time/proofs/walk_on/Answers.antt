-- `clock_by_time::walk_on` comes to where a walk from the start comes. Assumes nothing.
use Rattle.chart.specs.Timing.{Timing, timing}
use Rattle.clock_by_time.proofs.LaterTimes.{walked_on, sum_fits}
use Rattle.clock_by_time.proofs.walk_on.Goals as goal

pub overflow_add-result : goal.overflow_add-result
overflow_add-result c =
    let walked = c in
    let s = walked in
    let a = s.args in
    let t : Timing = timing a.tempo_beats.now a.tempo_values.now a.stop_beats.now a.stop_values.now a.delay_beats.now a.delay_values.now a.warp_beats.now a.warp_lengths.now in
    let g = s.well_formed in
    record { fits = sum_fits a.early t a.start a.reached s.requires a.elapsed walked.walk_by-at.result walked.walk_by-at.ensures g.1.1.1.1.0.1 g.1.1.1.1.1.1.0.1 g.1.1.1.1.1.1.1.1.0.1 g.1.1.1.1.1.1.1.1.1.1.0.1 }

pub returns-then-reached-elapsed : goal.returns-then-reached-elapsed
returns-then-reached-elapsed c =
    let walked = c in
    let s = walked in
    let a = s.args in
    let t : Timing = timing a.tempo_beats.now a.tempo_values.now a.stop_beats.now a.stop_values.now a.delay_beats.now a.delay_values.now a.warp_beats.now a.warp_lengths.now in
    walked_on a.early t a.start a.reached s.requires a.elapsed walked.walk_by-at.result walked.walk_by-at.ensures walked.if-reached-elapsed.true

pub returns : goal.returns
returns c = c.walk_by.ensures
