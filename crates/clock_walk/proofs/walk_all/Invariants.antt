-- `clock_walk::walk_all` walks event by event, to where nothing is found. Assumes nothing.
use Rattle.std.proofs.Common.{◌≡◌}
use Rattle.chart.specs.Timing.{timing}
use Rattle.clock_walk.specs.Course.{events_left}
use Rattle.clock_walk.specs.Heads.{heads_of}
use Rattle.clock_walk.proofs.WholeCourse.{mark_from}
use Rattle.clock_walk.proofs.walk_all.Given as goal

abbrev pub invariant-loop-next : goal.invariant-loop-next
invariant-loop-next l = let t = timing l.tempo_beats l.tempo_values l.stop_beats l.stop_values l.delay_beats l.delay_values l.warp_beats l.warp_lengths in
    (mark_from l.early t l.state l.greatest ≡ mark_from l.early t l.initial.state l.initial.state.row) × (l.heads ≡ heads_of l.tempo_beats l.stop_beats l.delay_beats l.warp_beats l.state)

abbrev pub decreases-loop-next : goal.decreases-loop-next
decreases-loop-next l = events_left (timing l.tempo_beats l.tempo_values l.stop_beats l.stop_values l.delay_beats l.delay_values l.warp_beats l.warp_lengths) l.state
