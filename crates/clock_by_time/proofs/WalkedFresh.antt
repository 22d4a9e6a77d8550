-- The walk from the start over tempos that are chosen, its own or the one of 60, is that of the filled timing, and what it passes can be counted; and a run over
-- them answers what the call that tests the time alone does. Assumes nothing.
use Prim.Native.Nat.{◌+◌, ◌*◌, ◌^◌, ◌<◌}
use mathlib.Core.Bool.{Bool, true, false}
use mathlib.Core.List.{List, [], ◌∷◌}
use mathlib.Core.Path.{◌≡◌, refl, ap, ◌∙◌}
use native.Mathlib.Omega.{arith}
use lib.Dec.{eqb}
use lib.ListN.{length}
use lib.Ieee.{Float, binary64, add}
use Rattle.ieee.specs.Constants.{plus_zero, sixty}
use Rattle.picks.specs.Pick.{pick}
use Rattle.chart.specs.Timing.{Timing}
use Rattle.chart.specs.declared.State.{State}
use Rattle.clock_walk.specs.Passing.{early_tempo}
use Rattle.clock_walk.specs.ByTime.{walk_by}
use Rattle.clock_walk.specs.declared.ByTime.{ByTime}
use Rattle.clock_walk.proofs.OverByATime.{passed_by_fits}
use Rattle.clock.specs.Question.{filled, fresh_state}
use Rattle.clock.proofs.FilledTempos.{tempoed}
use Rattle.clock_by_time.specs.BeatAt.{time_number, fresh_by, info_of, info_at, info_refused, beat_info_checked}
use Rattle.clock_by_time.specs.declared.BeatInfo.{BeatInfo}
use Rattle.clock_by_time.specs.inside.OnTheWay.{info_from}

module _ (t : Timing) (offset global : Float) where
  pub walked-fresh : (elapsed : Float) (u : Timing) (start : State) (early : Float) (w : ByTime) → u ≡ filled t → start ≡ fresh_state offset global → early ≡ early_tempo u.tempo_beats u.tempo_values start
      → w ≡ walk_by elapsed early u start → w ≡ fresh_by t offset global elapsed
  unfolding fresh_by
  walked-fresh elapsed u start early w is_filled is_start is_early is = rw (← is_start, ← is_filled, ← is_early) is

  pub fresh-fits : (elapsed : Float) → length t.tempo_beats * 4 < 2 ^ 63 → length t.stop_beats * 4 < 2 ^ 63 → length t.delay_beats * 4 < 2 ^ 63 → length t.warp_beats * 4 < 2 ^ 63
      → (fresh_by t offset global elapsed).passed + 1 < 2 ^ 64
  unfolding fresh_by filled
  fresh-fits elapsed k l m n = by (eqb (length t.tempo_beats) 0)
    where
      by : (b : Bool) → let u = pick b (tempoed t (plus_zero ∷ []) (sixty ∷ [])) t in
          (walk_by elapsed (early_tempo u.tempo_beats u.tempo_values (fresh_state offset global)) u (fresh_state offset global)).passed + 1 < 2 ^ 64
      by true = passed_by_fits elapsed _ (tempoed t (plus_zero ∷ []) (sixty ∷ [])) (fresh_state offset global) (omega arith) l m n
      by false = passed_by_fits elapsed _ t (fresh_state offset global) k l m n

  stops-stay : (filled t).stop_beats ≡ t.stop_beats
  unfolding filled
  stops-stay = by (eqb (length t.tempo_beats) 0)
    where
      by : (b : Bool) → (pick b (tempoed t (plus_zero ∷ []) (sixty ∷ [])) t).stop_beats ≡ t.stop_beats
      by true = refl
      by false = refl

  delays-stay : (filled t).delay_beats ≡ t.delay_beats
  unfolding filled
  delays-stay = by (eqb (length t.tempo_beats) 0)
    where
      by : (b : Bool) → (pick b (tempoed t (plus_zero ∷ []) (sixty ∷ [])) t).delay_beats ≡ t.delay_beats
      by true = refl
      by false = refl

  pub answered-from : (u : Timing) (start : State) (early : Float) → u ≡ filled t → start ≡ fresh_state offset global → early ≡ early_tempo u.tempo_beats u.tempo_values start
      → info_from early u start global ≡ beat_info_checked t offset global
  unfolding info_from beat_info_checked info_at fresh_by
  answered-from u start early is_filled is_start is_early =
      let by : List Float → List Float → Float → BeatInfo = λ stops delays time. pick (eqb (time_number time) 0) (info_of (add binary64 time global) stops delays (fresh_by t offset global (add binary64 time global))) (info_refused (time_number time)) in
      rw (is_early, is_start, is_filled) (ap (λ (stops : List Float). by stops (filled t).delay_beats) stops-stay ∙ ap (λ (delays : List Float). by t.stop_beats delays) delays-stay)
