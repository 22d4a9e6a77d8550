-- `clock_bench::lay_events` lays the list, event by event. Assumes nothing.
use Rattle.chart.specs.Timing.{timing}
use Rattle.clock_bench.proofs.ListGrows.{Growing}
use Rattle.clock_bench.proofs.lay_events.Given as goal

abbrev pub invariant-loop-i : goal.invariant-loop-i
invariant-loop-i l = Growing l.most (timing l.tempo_beats l.tempo_values l.stop_beats l.stop_values l.delay_beats l.delay_values l.warp_beats l.warp_lengths) l.initial.rows l.initial.kinds l.initial.numbers l.rows l.kinds l.numbers l.spot l.i
