-- What every event keeps, every walk of the clock keeps; and every event leaves the places within their lists. Assumes nothing.
use Rattle.clock_walk.specs.declared.Next.{Next}
use Rattle.std.proofs.Common.{◌≡◌, ℕ, ◌+◌, ◌≤◌, true, length, ℤ, arith, Option, Some, None}
use lib.Ieee.{Float}
use Rattle.chart.specs.Timing.{Timing}
use Rattle.clock_walk.specs.Events.{ahead}
use Rattle.clock_walk.specs.Passing.{arrived, event_passed, after_warp_end, after_tempo, after_delay, after_stop, after_warp}
use Rattle.clock_walk.specs.Course.{past_found, onward}
use Rattle.clock_walk.specs.Walk.{is_due, walk_on}
use Rattle.chart.specs.declared.State.{State}
use Rattle.clock_walk.specs.declared.Event.{Event}
use Rattle.clock_walk.specs.declared.Event.TheVariants.{WarpEnd, Tempo, Delay, Stop, Warp}
use Rattle.clock_walk.proofs.EachCandidate.{Placed, PlacedFound, placed-ahead}
use Rattle.clock_walk.proofs.AllWalks.{pass-keeps}

pub walk-keeps : (early : Float) (t : Timing) (r : ℤ) (P : State → ℕ → Type 0) → ((s : State) (n : ℕ) → is_due t r s ≡ true → P s n → P (onward early t s) (n + 1))
    → (s : State) (n : ℕ) → P s n → P (walk_on early t r s n).state (walk_on early t r s n).passed
unfolding walk_on
walk-keeps early t r P keeps s n h = pass-keeps early t (is_due t r) P keeps s n h

pub record PlacesWithin (t : Timing) (s : State) : Type 0 where
  pub tempos : s.tempos ≤ length t.tempo_beats
  pub stops : s.stops ≤ length t.stop_beats
  pub delays : s.delays ≤ length t.delay_beats
  pub warps : s.warps ≤ length t.warp_beats

arrives : (t : Timing) (s : State) (at : ℤ) (time number : Float) (k : Event) → Placed t s k → PlacesWithin t s → PlacesWithin t (arrived s at time number k)
unfolding after_warp_end after_tempo after_delay after_stop after_warp
arrives t s at time number WarpEnd p w = record { tempos = w.tempos; stops = w.stops; delays = w.delays; warps = w.warps }
arrives t s at time number Tempo p w = record { tempos = omega arith; stops = w.stops; delays = w.delays; warps = w.warps }
arrives t s at time number Delay p w = record { tempos = w.tempos; stops = w.stops; delays = omega arith; warps = w.warps }
arrives t s at time number Stop p w = record { tempos = w.tempos; stops = omega arith; delays = w.delays; warps = w.warps }
arrives t s at time number Warp p w = record { tempos = w.tempos; stops = w.stops; delays = w.delays; warps = omega arith }

found_within : (early : Float) (t : Timing) (s : State) (a : Option Next) → PlacedFound t s a → PlacesWithin t s → PlacesWithin t (past_found early t s a)
unfolding event_passed
found_within early t s (Some n) p w = arrives t s n.row _ _ n.kind p w
found_within early t s None p w = w

pub places-onward : (early : Float) (t : Timing) (s : State) → PlacesWithin t s → PlacesWithin t (onward early t s)
places-onward early t s w = found_within early t s (ahead t s) (placed-ahead t s) w
