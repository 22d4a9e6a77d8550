-- `clock_walk::walk_to` walks event by event. Assumes nothing.
use Rattle.std.proofs.Common.{◌≡◌}
use Rattle.chart.specs.Timing.{timing}
use Rattle.clock_walk.specs.Course.{events_left}
use Rattle.clock_walk.specs.Walk.{is_due}
use Rattle.clock_walk.specs.Heads.{heads_of}
use Rattle.clock_walk.proofs.AllWalks.{Going}
use Rattle.clock_walk.proofs.ClockTest.{says_due}
use Rattle.clock_walk.proofs.walk_to.Given as goal

abbrev pub invariant-loop-tempo : goal.invariant-loop-tempo
invariant-loop-tempo l = let t = timing l.tempo_beats l.tempo_values l.stop_beats l.stop_values l.delay_beats l.delay_values l.warp_beats l.warp_lengths in
    Going l.early t (is_due t l.asked) (says_due t l.asked) l.initial.state l.state l.passed × (l.heads ≡ heads_of l.tempo_beats l.stop_beats l.delay_beats l.warp_beats l.state)

abbrev pub decreases-loop-tempo : goal.decreases-loop-tempo
decreases-loop-tempo l = events_left (timing l.tempo_beats l.tempo_values l.stop_beats l.stop_values l.delay_beats l.delay_values l.warp_beats l.warp_lengths) l.state
