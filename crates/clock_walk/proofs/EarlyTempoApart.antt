-- Once a tempo is passed, the tempo that a walk began with plays no part. Assumes nothing.
use Rattle.clock_walk.specs.declared.Next.{Next}
use Rattle.std.proofs.Common.{◌≡◌, ℕ, zero, suc, ◌+◌, ◌<◌, ◌≤◌, Bool, true, false, List, ℤ, refl, ap, ◌∙◌, arith, ne_eqb, Option, Some, None}
use lib.Ieee.{Float}
use Rattle.chart.specs.Timing.{Timing}
use Rattle.clock_walk.specs.Events.{ahead}
use Rattle.clock_walk.specs.Passing.{in_force, time_to, time_at, brings, arrived, event_passed, after_warp_end, after_tempo, after_delay, after_stop, after_warp}
use Rattle.clock_walk.specs.Course.{past_found, onward, events_left, pass_within, pass_while}
use Rattle.clock_walk.specs.Walk.{is_due, ended, walk_on}
use Rattle.chart.specs.declared.State.{State}
use Rattle.clock_walk.specs.declared.Event.{Event}
use Rattle.clock_walk.specs.declared.Event.TheVariants.{WarpEnd, Tempo, Delay, Stop, Warp}

-- ---- places only move on
tempos_grow : (s : State) (at : ℤ) (time number : Float) (k : Event) → s.tempos ≤ (arrived s at time number k).tempos
unfolding after_warp_end after_tempo after_delay after_stop after_warp
tempos_grow s at time number WarpEnd = omega arith
tempos_grow s at time number Tempo = omega arith
tempos_grow s at time number Delay = omega arith
tempos_grow s at time number Stop = omega arith
tempos_grow s at time number Warp = omega arith

found-grows : (early : Float) (t : Timing) (s : State) (a : Option Next) → s.tempos ≤ (past_found early t s a).tempos
unfolding event_passed
found-grows early t s (Some n) = tempos_grow s n.row _ _ n.kind
found-grows early t s None = omega arith

pub onward-grows : (early : Float) (t : Timing) (s : State) → s.tempos ≤ (onward early t s).tempos
onward-grows early t s = found-grows early t s (ahead t s)

module _ (one other : Float) where
  force_apart : (values : List Float) (place : ℕ) → 0 < place → in_force one values place ≡ in_force other values place
  unfolding in_force
  force_apart values place h = rw (ne_eqb place 0 (λ e. absurd (omega arith)))

  pub time-apart : (values : List Float) (s : State) (at : ℤ) → 0 < s.tempos → time_at one values s at ≡ time_at other values s at
  unfolding time_at time_to
  time-apart values s at h = rw (force_apart values s.tempos h)

  found-apart : (t : Timing) (s : State) (a : Option Next) → 0 < s.tempos → past_found one t s a ≡ past_found other t s a
  found-apart t s (Some n) h =
      ap (λ (x : Float). event_passed s n x (brings t.stop_values t.delay_values t.warp_beats t.warp_lengths s n.kind)) (time-apart t.tempo_values s n.row h)
  found-apart t s None h = refl

  module _ (t : Timing) (more : State → Bool) where
    within-apart : (f : ℕ) (b : Bool) (s : State) (n : ℕ) → more s ≡ b → 0 < s.tempos → pass_within f more one t s n ≡ pass_within f more other t s n
    unfolding pass_within
    within-apart zero b s n e h = refl
    within-apart (suc f) false s n e h = rw e
    within-apart (suc f) true s n e h =
        let g = onward-grows one t s in
        rw e
        (within-apart f (more (onward one t s)) (onward one t s) (n + 1) refl (omega arith)
        ∙ ap (λ (x : State). pass_within f more other t x (n + 1)) (found-apart t s (ahead t s) h))

    kept-past : (f : ℕ) (b : Bool) (s : State) (n : ℕ) → more s ≡ b → 0 < s.tempos → 0 < (pass_within f more one t s n).state.tempos
    unfolding pass_within
    kept-past zero b s n e h = h
    kept-past (suc f) false s n e h = rw e h
    kept-past (suc f) true s n e h = let g = onward-grows one t s in rw e (kept-past f (more (onward one t s)) (onward one t s) (n + 1) refl (omega arith))

    pub pass-apart : (s : State) (n : ℕ) → 0 < s.tempos → pass_while more one t s n ≡ pass_while more other t s n
    unfolding pass_while
    pass-apart s n h = within-apart (events_left t s) (more s) s n refl h

    past-stays : (s : State) (n : ℕ) → 0 < s.tempos → 0 < (pass_while more one t s n).state.tempos
    unfolding pass_while
    past-stays s n h = kept-past (events_left t s) (more s) s n refl h

  pub early-apart : (t : Timing) (r : ℤ) (s : State) (n : ℕ) → 0 < s.tempos → walk_on one t r s n ≡ walk_on other t r s n
  unfolding walk_on
  early-apart t r s n h =
      let w = pass_while (is_due t r) one t s n in
      ap (λ (x : Float). record { state = w.state; passed = w.passed; time = x }) (time-apart t.tempo_values w.state r (past-stays t (is_due t r) s n h))
      ∙ ap (ended other t r) (pass-apart t (is_due t r) s n h)
