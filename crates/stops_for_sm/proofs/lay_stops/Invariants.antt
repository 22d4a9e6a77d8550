-- `stops_for_sm::lay_stops` lays the sums. Assumes nothing.
use Rattle.stops_for_sm.proofs.TurnByTurn.{Fit}
use Rattle.stops_for_sm.proofs.HeadsInHand.{InHand}
use Rattle.stops_for_sm.specs.Filling.{flat}
use Rattle.order.proofs.LaidOverFront.{Laying}
use Rattle.stops_for_sm.specs.Merging.{sources, turns_left, merged_stops, at_first}
use Rattle.stops_for_sm.proofs.lay_stops.Given as goal

abbrev pub invariant-loop-work : goal.invariant-loop-work
invariant-loop-work l = Laying (flat (merged_stops (sources l.tempo_beats l.tempo_values l.stops l.delay_beats l.delay_values l.warp_beats l.warp_lengths) at_first)) l.initial.work l.work (flat (merged_stops (sources l.tempo_beats l.tempo_values l.stops l.delay_beats l.delay_values l.warp_beats l.warp_lengths) (record { tempo = l.tempo; stop = l.stop; delay = l.delay; warp = l.warp }))) l.at × Fit (sources l.tempo_beats l.tempo_values l.stops l.delay_beats l.delay_values l.warp_beats l.warp_lengths) (record { tempo = l.tempo; stop = l.stop; delay = l.delay; warp = l.warp }) × InHand (sources l.tempo_beats l.tempo_values l.stops l.delay_beats l.delay_values l.warp_beats l.warp_lengths) (record { tempo = l.tempo; stop = l.stop; delay = l.delay; warp = l.warp }) l.next l.seconds l.stop_beat l.delay_beat l.warp_beat

abbrev pub decreases-loop-work : goal.decreases-loop-work
decreases-loop-work l = turns_left (sources l.tempo_beats l.tempo_values l.stops l.delay_beats l.delay_values l.warp_beats l.warp_lengths) (record { tempo = l.tempo; stop = l.stop; delay = l.delay; warp = l.warp })
