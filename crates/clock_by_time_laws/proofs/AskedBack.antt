-- Where time does not fall, what goes before a beat is passed by its time (`AskedBack`). Assumes nothing.
use Rattle.std.specs.Prelude.{Option, Some, None}
use Prim.Native.Nat.{ℕ, zero, suc, ◌+◌, ◌≤◌}
use mathlib.Core.Bool.{Bool, true, false, not}
use mathlib.Core.Path.{◌≡◌, refl, sym, ap, ◌∙◌}
use native.Mathlib.Omega.{arith}
use lib.Dec.{T}
use denote.Floats.{passes}
use lib.IntN.{ℤ}
use lib.Ieee.{Float, binary64, add, lt, le}
use Rattle.picks.specs.Pick.{pick}
use Rattle.ieee.proofs.FloatsInOrder.{float_le_trans, float_lt_not_le}
use Rattle.rows.proofs.RowOrder.{no}
use Rattle.chart.specs.Timing.{Timing}
use Rattle.chart.specs.declared.State.{State}
use Rattle.clock_walk.specs.Events.{ahead}
use Rattle.clock_walk.specs.Passing.{time_at, brings, arrived, event_passed, passing, after_delay, after_stop}
use Rattle.clock_walk.specs.Course.{is_found, onward, events_left, Stopped, pass_while}
use Rattle.clock_walk.specs.Walk.{is_due, walk_on}
use Rattle.clock_walk.specs.ByTime.{has_come, still_runs, over_by, is_ahead_over, passed_by}
use Rattle.clock_walk.specs.declared.Next.{Next}
use Rattle.clock_walk.specs.declared.Event.{Event}
use Rattle.clock_walk.specs.declared.Event.TheVariants.{WarpEnd, Tempo, Delay, Stop, Warp}
use Rattle.clock_walk.proofs.EventByEvent.{left-falls}
use Rattle.clock_walk.proofs.AllWalks.{pass_on, pass-end}
use Rattle.clock_walk.proofs.ClockTest.{says_due, walk-on, walk_end}
use Rattle.clock_walk.proofs.OverByATime.{says_over}
use Rattle.clock_by_time_laws.specs.AskedBack.{holds_past, holds_within, time_holds, AskedBack}

both : (a b : Bool) → pick a b false ≡ true → (a ≡ true) × (b ≡ true)
both true b h = (refl, h)
both false b h = no h

-- what is at most a time is not above it
not_above_lem : (x time : Float) → T (le x time) → lt time x ≡ false
not_above_lem x time h = go (lt time x) refl
  where
    go : (b : Bool) → lt time x ≡ b → b ≡ false
    go false e = refl
    go true e = absurd (float_lt_not_le time x (passes _ e) h)

module _ (early : Float) (t : Timing) where
  -- ---- an event is over by every time from the one on that it leaves behind
  kind-over : (s : State) (time comes number : Float) (at : ℤ) (k : Event) → T (le (arrived s at comes number k).time time) → still_runs time comes number k ≡ false
  unfolding still_runs after_delay after_stop
  kind-over s time comes number at WarpEnd h = refl
  kind-over s time comes number at Tempo h = refl
  kind-over s time comes number at Delay h = not_above_lem (add binary64 comes number) time h
  kind-over s time comes number at Stop h = not_above_lem (add binary64 comes number) time h
  kind-over s time comes number at Warp h = refl

  over-past : (s : State) (time : Float) (n : Next) → T (le (time_at early t.tempo_values s n.row) time) → T (le (passing early t s n).time time) → over_by time early t s n ≡ true
  unfolding over_by has_come event_passed
  over-past s time n come after =
      rw (not_above_lem (time_at early t.tempo_values s n.row) time come, kind-over s time (time_at early t.tempo_values s n.row) (brings t.stop_values t.delay_values t.warp_beats t.warp_lengths s n.kind) n.row n.kind after) refl

  -- what is ahead, where time holds past it
  past : (s : State) (time : Float) (a : Option Next) → ahead t s ≡ a → is_found a ≡ true → holds_past early t s ≡ true → T (le (onward early t s).time time)
      → (is_ahead_over time early t s ≡ true) × T (le s.time time)
  unfolding holds_past
  past s time (Some n) is found holds after =
      let comes = time_at early t.tempo_values s n.row in
      let parts = both (le s.time comes) (le comes (passing early t s n).time) (rw is at holds) in
      let left : T (le (passing early t s n).time time) = rw is at after in
      let come = float_le_trans comes (passing early t s n).time time (passes _ parts.1) left in
      (rw is (over-past s time n come left), float_le_trans s.time comes time (passes _ parts.0) come)
  past s time None is found holds after = no found

  module _ (r : ℤ) (time : Float) where
    abbrev more : State → Bool
    more = is_ahead_over time early t

    abbrev beyond : Stopped → Stopped
    beyond w = pass_while more early t w.state w.passed

    by_left : (f : ℕ) (b : Bool) (s : State) (n : ℕ) → is_due t r s ≡ b → events_left t s ≤ f → holds_within f early t r s ≡ true → time ≡ (walk_on early t r s n).time
        → (pass_while more early t s n ≡ beyond (pass_while (is_due t r) early t s n)) × T (le s.time time)
    unfolding holds_within
    by_left zero true s n e l h is = let k = left-falls early t s (says_due t r s e) in absurd (omega arith)
    by_left zero false s n e l h is = (ap beyond (sym (pass-end early t (is_due t r) (says_due t r) s n e)), rw (is, walk_end early t r s n e) (passes _ h))
    by_left (suc f) false s n e l h is = (ap beyond (sym (pass-end early t (is_due t r) (says_due t r) s n e)), rw (is, walk_end early t r s n e) (passes _ (rw e at h)))
    by_left (suc f) true s n e l h is =
        let k = left-falls early t s (says_due t r s e) in
        let parts = both (holds_past early t s) (holds_within f early t r (onward early t s)) (rw e at h) in
        let later = by_left f (is_due t r (onward early t s)) (onward early t s) (n + 1) refl (omega arith) parts.1 (is ∙ ap (λ w. w.time) (walk-on early t r s n e)) in
        let here = past s time (ahead t s) refl (says_due t r s e) parts.0 later.1 in
        (pass_on early t more (says_over time early t) s n here.0 ∙ later.0 ∙ ap beyond (sym (pass_on early t (is_due t r) (says_due t r) s n e)), here.1)

  pub asked-back : (r : ℤ) (s : State) → time_holds early t r s ≡ true → AskedBack early t r s
  unfolding passed_by walk_on
  asked-back r s h = (by_left r (walk_on early t r s 0).time (events_left t s) (is_due t r s) s 0 refl (omega arith) h refl).0
