-- `clock::walk_filled` walks the filled timing. Assumes nothing.
use mathlib.Core.Path.{◌≡◌}
use lib.Ieee.{of_bits}
use Rattle.chart.specs.Timing.{Timing, timing}
use Rattle.clock_walk.specs.Walk.{walk}
use Rattle.rows.proofs.BackFromBits.{back}
use Rattle.clock.specs.Question.{filled}
use Rattle.clock.proofs.FilledTempos.{filled-by, filled-fits}
use borrow.Author.Rules.{rules}
use Rattle.clock.proofs.walk_filled.Goals as goal

pub returns : goal.returns
unfolding of_bits
returns c =
    let s = c in
    let a = s.args in
    let t : Timing = timing a.tempo_beats.now a.tempo_values.now a.stop_beats.now a.stop_values.now a.delay_beats.now a.delay_values.now a.warp_beats.now a.warp_lengths.now in
    let chosen = filled-by t _ _ c.either-beats.ensures c.either-tempos.ensures in
    let is : c.walk_to.result ≡ walk (filled t) a.row a.begin = rw (chosen, back a.row s.ranges.row) at c.walk_to.ensures in
    let g = s.well_formed in
    record {
      is = is;
      few = filled-fits t c.walk_to.result a.row a.begin is g.1.1.0.1 g.1.1.1.1.0.1 g.1.1.1.1.1.1.0.1 g.1.1.1.1.1.1.1.1.0.1;
    }
