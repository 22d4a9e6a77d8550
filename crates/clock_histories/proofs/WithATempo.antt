-- What holds of a timing that has a tempo, and of one that is given the tempo of 60 at beat 0, holds of the one that is walked. Assumes nothing.
use Prim.Native.Nat.{◌-◌}
use mathlib.Core.List.{[], ◌∷◌}
use mathlib.Core.Bool.{Bool, true, false}
use mathlib.Core.Path.{◌≡◌, refl}
use native.Mathlib.Omega.{arith}
use borrow.Author.Tests.{eqb-false}
use lib.Dec.{eqb}
use lib.ListN.{length}
use lib.Ieee.{Float}
use Rattle.ieee.specs.Constants.{plus_zero, sixty}
use Rattle.picks.specs.Pick.{pick}
use Rattle.chart.specs.Timing.{Timing}
use Rattle.clock_walk.specs.Course.{events_left}
use Rattle.clock.specs.Question.{filled, tempos_of, fresh_state}
use Rattle.clock_histories.specs.Costs.{events}

abbrev pub given : Timing → Timing
given t = record {
  tempo_beats = plus_zero ∷ [];
  tempo_values = sixty ∷ [];
  stop_beats = t.stop_beats;
  stop_values = t.stop_values;
  delay_beats = t.delay_beats;
  delay_values = t.delay_values;
  warp_beats = t.warp_beats;
  warp_lengths = t.warp_lengths;
}

pub of_filled : (P : Timing → Type 0) (t : Timing) → P (given t) → ((length t.tempo_beats ≡ 0 → ⊥) → P t) → P (filled t)
unfolding filled
of_filled P t p q = go (eqb (length t.tempo_beats) 0) refl
  where
    go : (b : Bool) → eqb (length t.tempo_beats) 0 ≡ b → P (pick b (given t) t)
    go true e = p
    go false e = q (eqb-false (length t.tempo_beats) 0 e)

-- ---- the lists that are walked
pub tempos-filled : (t : Timing) → length (filled t).tempo_beats ≡ tempos_of t
unfolding filled tempos_of
tempos-filled t = go (eqb (length t.tempo_beats) 0)
  where
    go : (b : Bool) → length (pick b (given t) t).tempo_beats ≡ pick b 1 (length t.tempo_beats)
    go true = refl
    go false = refl

pub stops-filled : (t : Timing) → (filled t).stop_beats ≡ t.stop_beats
stops-filled t = of_filled (λ (f : Timing). f.stop_beats ≡ t.stop_beats) t refl (λ _. refl)

pub delays-filled : (t : Timing) → (filled t).delay_beats ≡ t.delay_beats
delays-filled t = of_filled (λ (f : Timing). f.delay_beats ≡ t.delay_beats) t refl (λ _. refl)

pub warps-filled : (t : Timing) → (filled t).warp_beats ≡ t.warp_beats
warps-filled t = of_filled (λ (f : Timing). f.warp_beats ≡ t.warp_beats) t refl (λ _. refl)

-- what a fresh state has left: all events
pub all_left : (t : Timing) (offset global : Float) → events_left (filled t) (fresh_state offset global) ≡ events t
unfolding fresh_state
all_left t offset global = rw (tempos-filled t, stops-filled t, delays-filled t, warps-filled t) (omega arith)
