-- The beat of a time passes one round of events at most, and says what it is asked to say (`OneRound`). Assumes nothing.
use Prim.Native.Nat.{ℕ, ◌+◌, ◌≤◌}
use mathlib.Core.Bool.{Bool, true, false, ◌&&◌}
use mathlib.Core.Path.{◌≡◌, refl, ap}
use native.Mathlib.Omega.{arith}
use lib.Dec.{eqb}
use lib.Ieee.{Float, binary64, add}
use Rattle.limits.specs.Refusals.{lower}
use Rattle.chart.specs.Timing.{Timing}
use Rattle.clock_tests.specs.TimingNumbers.{timing_number}
use Rattle.clock_walk.specs.Passing.{early_tempo}
use Rattle.clock_walk.specs.ByTime.{walk_by}
use Rattle.clock_walk.specs.declared.Pausing.{Pausing}
use Rattle.clock_walk.specs.declared.Pausing.TheVariants.{InDelay, InFreeze, NoPause}
use Rattle.clock_walk.proofs.OverByATime.{at_most_one_round}
use Rattle.clock.specs.Question.{filled, fresh_state}
use Rattle.clock_by_time.specs.BeatAt.{time_number, fresh_by, is_freeze, is_delay, info_at, info_by_number, beat_info_checked, beat_info_number, beat_info}
use Rattle.clock_histories.specs.Costs.{events}
use Rattle.clock_histories.proofs.WithATempo.{all_left}
use Rattle.clock_by_time_laws.specs.OneRound.{OneRound}

module _ (t : Timing) (offset global : Float) where
  pub passed_at_most : (elapsed : Float) → (fresh_by t offset global elapsed).passed ≤ events t
  unfolding fresh_by walk_by
  passed_at_most elapsed =
      let s = fresh_state offset global in
      omega (arith, at_most_one_round elapsed (early_tempo (filled t).tempo_beats (filled t).tempo_values s) (filled t) s, all_left t offset global)

  module _ (time : Float) where
    count_by : (taken : Bool) (n : ℕ) → eqb n 0 ≡ taken → (info_by_number n t offset global time).count ≤ events t + 1
    unfolding info_at
    count_by true n e = rw e (omega (arith, passed_at_most (add binary64 time global)))
    count_by false n e = rw e (omega arith)

    not_both : (p : Pausing) → (is_freeze p && is_delay p) ≡ false
    not_both InDelay = refl
    not_both InFreeze = refl
    not_both NoPause = refl

    marks-by : (taken : Bool) (n : ℕ) → eqb n 0 ≡ taken → ((info_by_number n t offset global time).is_in_freeze && (info_by_number n t offset global time).is_in_delay) ≡ false
    unfolding info_at
    marks-by true n e = rw e (not_both (fresh_by t offset global (add binary64 time global)).pause)
    marks-by false n e = rw e refl

    same_number : timing_number t offset global ≡ 0 → time_number time ≡ beat_info_number t offset global time
    unfolding beat_info_number lower
    same_number h = rw h refl

    pub one-round : OneRound t offset global time
    unfolding beat_info beat_info_checked
    one-round = record {
      count = count_by _ (beat_info_number t offset global time) refl;
      checked_count = count_by _ (time_number time) refl;
      marks = marks-by _ (time_number time) refl;
      checked_is_tested = λ h. ap (λ (n : ℕ). info_by_number n t offset global time) (same_number h);
    }
