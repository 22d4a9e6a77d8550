-- A walk from a fresh state passes no more events than the lists have, a warp counting twice; and one passes them all. Assumes nothing.
use Prim.Native.Nat.{◌≤◌}
use mathlib.Core.Bool.{false}
use mathlib.Core.List.{[], ◌∷◌}
use mathlib.Core.Path.{◌≡◌, refl}
use native.Mathlib.Omega.{arith}
use lib.IntN.{ℤ, pos}
use lib.Ieee.{Float, fin, add, sub, neg, mul, div, of_int, lt, le, eq, sum}
use Rattle.ieee.specs.Constants.{plus_zero, sixty}
use Rattle.ieee.specs.Rounding.{rint, hold}
use Rattle.chart.specs.Timing.{Timing, timing}
use Rattle.clock_walk.specs.Events.{sooner, offered, end_offered, ahead, goes_before}
use Rattle.clock_walk.specs.Passing.{last_up_to, tempo_at, early_tempo, in_force, time_to, time_at, after_warp_end, after_tempo, after_delay, after_stop, larger, after_warp, event_passed}
use Rattle.clock_walk.specs.Course.{pass_within, pass_while}
use Rattle.clock_walk.specs.Walk.{walk_on, walk}
use Rattle.clock_walk.proofs.EventsSpent.{spent}
use Rattle.limits.specs.Numbers.{in_range, every}
use Rattle.limits.specs.Refusals.{lower, list_number}
use Rattle.clock_tests.specs.TimingNumbers.{rises_from, rises, starts_at_zero, timing_lists_number, offset_number, offsets_number, order_number, timing_number}
use Rattle.clock.specs.Question.{filled, tempos_of, fresh_state}
use Rattle.clock_histories.specs.Costs.{events}
use Rattle.clock_histories.proofs.WithATempo.{all_left}

pub events_at_most : (t : Timing) (offset global : Float) (r : ℤ) → (walk (filled t) r (fresh_state offset global)).passed ≤ events t
events_at_most t offset global r = omega (arith, spent (filled t) r (fresh_state offset global), all_left t offset global)

-- a tempo, a delay and a stop on beat 1, and a warp from beat 2 to 3: five events up to row 192, which is beat 4
abbrev pub one : Float
one = fin false 1 (pos 0)

abbrev pub small : Timing
small = timing (plus_zero ∷ []) (sixty ∷ []) (one ∷ []) (one ∷ []) (one ∷ []) (one ∷ []) (fin false 1 (pos 1) ∷ []) (one ∷ [])

pub events_all_passed : (walk (filled small) (pos 192) (fresh_state plus_zero plus_zero)).passed ≡ events small
unfolding filled tempos_of fresh_state walk walk_on pass_while pass_within time_at early_tempo tempo_at last_up_to in_force time_to event_passed after_warp_end after_tempo after_delay after_stop after_warp larger ahead goes_before sooner offered end_offered rint hold add sub neg mul div of_int lt le sum
events_all_passed = refl

-- a timing that is taken
pub small-taken : timing_number small plus_zero plus_zero ≡ 0
unfolding timing_number timing_lists_number offsets_number offset_number order_number list_number lower in_range every rises rises_from starts_at_zero rint hold mul of_int neg lt le eq
small-taken = refl
