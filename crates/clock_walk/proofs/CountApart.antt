-- The count that a walk begins with is only added to: state and time don't turn on it. Assumes nothing.
use Rattle.std.proofs.Common.{◌≡◌, ℕ, ℤ, ap}
use lib.Ieee.{Float}
use Rattle.chart.specs.Timing.{Timing}
use Rattle.clock_walk.specs.Passing.{time_at}
use Rattle.clock_walk.specs.Walk.{is_due, walk_on}
use Rattle.chart.specs.declared.State.{State}
use Rattle.clock_walk.proofs.AllWalks.{count-apart}

module _ (early : Float) (t : Timing) (r : ℤ) where
  pub same-state : (s : State) (m n : ℕ) → (walk_on early t r s m).state ≡ (walk_on early t r s n).state
  unfolding walk_on
  same-state s m n = count-apart early t (is_due t r) s m n

  pub same-time : (s : State) (m n : ℕ) → (walk_on early t r s m).time ≡ (walk_on early t r s n).time
  unfolding walk_on
  same-time s m n = ap (λ (x : State). time_at early t.tempo_values x r) (count-apart early t (is_due t r) s m n)
