-- `clock_run::ask_each` asks beat by beat. Assumes nothing.
use Rattle.chart.specs.Timing.{timing}
use Rattle.clock_run.proofs.BeatByBeat.{Running}
use Rattle.clock_run.proofs.QuietRows.{Sees}
use Rattle.clock_run.proofs.ask_each.Given as goal

abbrev pub invariant-loop-i : goal.invariant-loop-i
invariant-loop-i l = Running l.mark (timing l.tempo_beats l.tempo_values l.stop_beats l.stop_values l.delay_beats l.delay_values l.warp_beats l.warp_lengths) l.offset l.global l.initial.at l.beats l.initial.numbers l.initial.times l.initial.counts l.at l.numbers l.times l.counts l.i × Sees (timing l.tempo_beats l.tempo_values l.stop_beats l.stop_values l.delay_beats l.delay_values l.warp_beats l.warp_lengths) l.at.state l.outlook
