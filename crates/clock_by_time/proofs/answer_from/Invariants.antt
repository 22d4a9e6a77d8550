-- `clock_by_time::answer_from` answers time by time, over the fronts of the columns. Assumes nothing.
use lib.ListN.{length}
use lib.Ieee.{Float}
use Rattle.columns.proofs.LaidEach.{LayingEach}
use Rattle.chart.specs.Timing.{Timing, timing}
use Rattle.clock_by_time.specs.inside.OnTheWay.{info_from, OnTheWay}
use Rattle.clock_by_time.specs.ManyTimes.{freeze_mark, delay_mark}
use Rattle.clock_by_time.specs.declared.BeatInfo.{BeatInfo}
use Rattle.clock_by_time.proofs.answer_from.Given as goal

abbrev pub invariant-loop-i : goal.invariant-loop-i
invariant-loop-i l = let t : Timing = timing l.tempo_beats l.tempo_values l.stop_beats l.stop_values l.delay_beats l.delay_values l.warp_beats l.warp_lengths in
    let at : Float → BeatInfo = info_from l.early t l.start l.global in
    LayingEach (λ (time : Float). (at time).number) l.times l.initial.numbers (length l.times) l.numbers l.i
    × LayingEach (λ (time : Float). (at time).beat) l.times l.initial.beats (length l.times) l.beats l.i
    × LayingEach (λ (time : Float). freeze_mark (at time)) l.times l.initial.freezes (length l.times) l.freezes l.i
    × LayingEach (λ (time : Float). delay_mark (at time)) l.times l.initial.delays (length l.times) l.delays l.i
    × LayingEach (λ (time : Float). (at time).count) l.times l.initial.counts (length l.times) l.counts l.i
    × OnTheWay l.early t l.start l.reached
