-- A walk passes the events at the front of the one course that go before the asked beat, and no others, whatever the asked row. Assumes nothing.
use Rattle.clock_walk.specs.declared.Next.{Next}
use Rattle.std.proofs.Common.{◌≡◌, ℕ, zero, suc, ◌+◌, ◌≤◌, Bool, true, false, [], ℤ, refl, ap, ◌∙◌, arith, Option, Some, None}
use lib.Ieee.{Float}
use Rattle.picks.specs.Pick.{pick}
use Rattle.chart.specs.Timing.{Timing}
use Rattle.clock_walk.specs.Events.{ahead, goes_before, due_of}
use Rattle.clock_walk.specs.Passing.{early_tempo, time_at}
use Rattle.clock_walk.specs.Course.{onward, events_left, Stopped, pass_while, state_after, found_before, events_within, course, leading_before}
use Rattle.clock_walk.specs.Walk.{is_passes, is_due, ended, walk_on, walk}
use Rattle.chart.specs.declared.State.{State}
use Rattle.rows.proofs.RowOrder.{no}
use Rattle.clock_walk.proofs.EventByEvent.{left-falls}
use Rattle.clock_walk.proofs.AllWalks.{pass_on, pass-end}
use Rattle.clock_walk.proofs.ClockTest.{says_due}

-- so many of a list lead as there are events due one after another
lead-by : (r : ℤ) (a : Option Next) (list : _) (b : Bool) → is_passes (due_of r a) ≡ b → leading_before r (found_before a list) ≡ pick b (suc (leading_before r list)) 0
unfolding leading_before
lead-by r (Some n) list b e = go (goes_before r n) b e
  where
    go : (x b : Bool) → is_passes (pick x (Some n) None) ≡ b → pick x (suc (leading_before r list)) 0 ≡ pick b (suc (leading_before r list)) 0
    go true b e = ap (λ (y : Bool). pick y (suc (leading_before r list)) 0) e
    go false b e = ap (λ (y : Bool). pick y (suc (leading_before r list)) 0) e
lead-by r None list true e = no e
lead-by r None list false e = refl

none-lead : (r : ℤ) → 0 ≡ leading_before r []
unfolding leading_before
none-lead r = refl

module _ (early : Float) (t : Timing) (r : ℤ) where
  -- k events of the course are passed, after n others
  abbrev prefixed : State → ℕ → ℕ → Stopped
  prefixed s n k = record { state = state_after k early t s; passed = n + k }

  none_after : (n : ℕ) → n ≡ n + 0
  none_after n = omega arith

  one_more : (n k : ℕ) → (n + 1) + k ≡ n + suc k
  one_more n k = omega arith

  stops-here : (s : State) (n : ℕ) → is_due t r s ≡ false → pass_while (is_due t r) early t s n ≡ prefixed s n 0
  unfolding state_after
  stops-here s n h = pass-end early t (is_due t r) (says_due t r) s n h ∙ ap (λ (k : ℕ). record { state = s; passed = k }) (none_after n)

  by_left : (f : ℕ) (b : Bool) (s : State) (n : ℕ) → is_due t r s ≡ b → events_left t s ≤ f → pass_while (is_due t r) early t s n ≡ prefixed s n (leading_before r (events_within f early t s))
  unfolding events_within state_after
  by_left zero true s n h l = let k = left-falls early t s (says_due t r s h) in absurd (omega arith)
  by_left zero false s n h l = stops-here s n h ∙ ap (λ (k : ℕ). prefixed s n k) (none-lead r)
  by_left (suc f) false s n h l = stops-here s n h ∙ rw (lead-by r (ahead t s) (events_within f early t (onward early t s)) false h)
  by_left (suc f) true s n h l =
      let k = left-falls early t s (says_due t r s h) in
      let lead = leading_before r (events_within f early t (onward early t s)) in
      pass_on early t (is_due t r) (says_due t r) s n h
      ∙ by_left f (is_due t r (onward early t s)) (onward early t s) (n + 1) refl (omega arith)
      ∙ rw (lead-by r (ahead t s) (events_within f early t (onward early t s)) true h, one_more n lead)

  pub prefix_on : (s : State) (n : ℕ) → walk_on early t r s n ≡ ended early t r (prefixed s n (leading_before r (course early t s)))
  unfolding walk_on course
  prefix_on s n = ap (ended early t r) (by_left (events_left t s) (is_due t r s) s n refl (omega arith))

-- the walk of a question
pub prefix_law : (t : Timing) (r : ℤ) (s : State) → let early = early_tempo t.tempo_beats t.tempo_values s in let k = leading_before r (course early t s) in
    walk t r s ≡ record { state = state_after k early t s; passed = k; time = time_at early t.tempo_values (state_after k early t s) r }
unfolding walk
prefix_law t r s = prefix_on (early_tempo t.tempo_beats t.tempo_values s) t r s 0 ∙ rw (zero-before (leading_before r (course (early_tempo t.tempo_beats t.tempo_values s) t s)))
  where
    zero-before : (k : ℕ) → 0 + k ≡ k
    zero-before k = omega arith
