-- `process_sm_walk::walk_on` lays each list by itself where no warp opens, and else takes change after change. Assumes nothing.
use Rattle.process_sm_walk.specs.Columns.{columns}
use Rattle.process_sm_walk.proofs.WalkTurns.{Going, ahead}
use Rattle.process_sm_walk.proofs.walk_on.Given as goal

abbrev pub invariant-loop-ending : goal.invariant-loop-ending
invariant-loop-ending l = Going l.tempo_beats l.tempo_values l.stop_beats l.stop_values (columns l.initial.out_tempo_beats l.initial.out_tempo_values l.initial.out_stop_beats l.initial.out_stop_values l.initial.out_warp_beats l.initial.out_warp_lengths) l.initial.places l.initial.state l.initial.counts (columns l.out_tempo_beats l.out_tempo_values l.out_stop_beats l.out_stop_values l.out_warp_beats l.out_warp_lengths) l.places l.state l.counts

abbrev pub decreases-loop-ending : goal.decreases-loop-ending
decreases-loop-ending l = ahead l.tempo_beats l.stop_beats l.places
