-- `clock_by_time::walk_fresh` walks the filled timing from the start. Assumes nothing.
use mathlib.Core.Path.{◌≡◌}
use lib.Ieee.{of_bits}
use Rattle.chart.specs.Timing.{Timing, timing}
use Rattle.clock.proofs.FilledTempos.{filled-by}
use Rattle.clock_by_time.specs.BeatAt.{fresh_by}
use Rattle.clock_by_time.proofs.WalkedFresh.{walked-fresh, fresh-fits}
use Rattle.clock_by_time.proofs.walk_fresh.Goals as goal

pub returns : goal.returns
unfolding of_bits
returns c =
    let early = c in
    let fresh = early in
    let tempos = fresh in
    let beats = tempos in
    let s = beats in
    let a = s.args in
    let t : Timing = timing a.tempo_beats.now a.tempo_values.now a.stop_beats.now a.stop_values.now a.delay_beats.now a.delay_values.now a.warp_beats.now a.warp_lengths.now in
    let chosen = filled-by t _ _ beats.either-beats.ensures tempos.either-tempos.ensures in
    let is : c.walk_by.result ≡ fresh_by t a.offset a.global a.elapsed = walked-fresh t a.offset a.global a.elapsed _ _ _ _ chosen fresh.fresh_state-start.ensures early.early_tempo-early.ensures c.walk_by.ensures in
    let g = s.well_formed in
    record {
      is = is;
      few = rw is (fresh-fits t a.offset a.global a.elapsed g.1.0.1 g.1.1.1.0.1 g.1.1.1.1.1.0.1 g.1.1.1.1.1.1.1.0.1);
    }
