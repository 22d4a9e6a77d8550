-- `clock_by_time::answer_each` answers every time, over the tempos that are chosen. Assumes nothing.
use lib.Ieee.{of_bits}
use Rattle.chart.specs.Timing.{Timing, timing}
use Rattle.clock.proofs.FilledTempos.{filled-by}
use Rattle.clock_by_time.proofs.WalkedFresh.{answered-from}
use Rattle.clock_by_time.proofs.InfoOutcome.{answered-alike}
use Rattle.clock_by_time.proofs.answer_each.Goals as goal

pub returns : goal.returns
unfolding of_bits
returns c =
    let all = c in
    let early = all in
    let fresh = early in
    let tempos = fresh in
    let chosen = tempos in
    let a = chosen.args in
    let t : Timing = timing a.tempo_beats.now a.tempo_values.now a.stop_beats.now a.stop_values.now a.delay_beats.now a.delay_values.now a.warp_beats.now a.warp_lengths.now in
    let is_filled = filled-by t _ _ chosen.either-at.ensures tempos.either-tempos.ensures in
    answered-alike (answered-from t a.offset a.global _ _ _ is_filled fresh.fresh_state-start.ensures early.early_tempo-early.ensures) all.answer_from.ensures
