-- `clock_bench::lay_filled` lays the events of the timing with a tempo. Assumes nothing.
use lib.Ieee.{of_bits}
use Rattle.chart.specs.Timing.{Timing, timing}
use Rattle.clock_bench.proofs.WithATempo.{chosen}
use Rattle.clock_bench.proofs.lay_filled.Goals as goal

pub returns : goal.returns
unfolding of_bits
returns c =
    let a = c.args in
    let t : Timing = (timing a.tempo_beats.now a.tempo_values.now a.stop_beats.now a.stop_values.now a.delay_beats.now a.delay_values.now a.warp_beats.now a.warp_lengths.now) in
    let is = chosen t _ _ c.either-beats.ensures c.either-tempos.ensures in
    rw is at c.lay_events.ensures
