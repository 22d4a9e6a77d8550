-- `clock::mark_of` is `mark_of`. Assumes nothing.
use lib.Ieee.{of_bits}
use Rattle.chart.specs.Timing.{Timing, timing}
use Rattle.clock.specs.Marked.{mark_of}
use Rattle.clock.proofs.FilledTempos.{filled-by}
use borrow.Author.Rules.{rules}
use Rattle.clock.proofs.mark_of.Goals as goal

pub returns : goal.returns
unfolding mark_of of_bits
returns c =
    let a = c.args in
    let t : Timing = timing a.tempo_beats.now a.tempo_values.now a.stop_beats.now a.stop_values.now a.delay_beats.now a.delay_values.now a.warp_beats.now a.warp_lengths.now in
    let chosen = filled-by t _ _ c.either-beats.ensures c.either-tempos.ensures in
    rw (chosen, c.fresh_state-start.ensures) at c.walk_all.ensures
