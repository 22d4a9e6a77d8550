-- The time and the warp's end of a state that a walk comes to are numbers of binary64, if they were where it began. Assumes nothing.
use Rattle.clock_walk.specs.declared.Next.{Next}
use Rattle.std.proofs.Common.{ℕ, zero, suc, Bool, true, false, T, length, ℤ, Option, Some, None}
use lib.Ieee.{Float, binary64, lt, fits}
use lib.Ieee.Fits.{add-fits}
use Rattle.picks.specs.Pick.{pick}
use Rattle.chart.specs.Timing.{Timing}
use Rattle.clock_walk.specs.Events.{ahead}
use Rattle.clock_walk.specs.Passing.{time_at, larger, after_warp_end, after_tempo, after_delay, after_stop, after_warp, brings, arrived, event_passed, early_tempo}
use Rattle.clock_walk.specs.Course.{past_found, onward, state_after, course}
use Rattle.clock_walk.specs.EndMark.{end_mark}
use Rattle.chart.specs.declared.State.{State}
use Rattle.clock_walk.specs.declared.Event.{Event}
use Rattle.clock_walk.specs.declared.Event.TheVariants.{WarpEnd, Tempo, Delay, Stop, Warp}

abbrev pub NumbersFit : State → Type 0
NumbersFit s = T (fits binary64 s.time) × T (fits binary64 s.end)

larger-fits : (old new : Float) → T (fits binary64 old) → T (fits binary64 new) → T (fits binary64 (larger old new))
unfolding larger
larger-fits old new f g = go (lt old new)
  where
    go : (b : Bool) → T (fits binary64 (pick b new old))
    go true = g
    go false = f

module _ (early : Float) (t : Timing) where
  arrived-fits : (s : State) (at : ℤ) (time : Float) (k : Event) → NumbersFit s → T (fits binary64 time)
      → NumbersFit (arrived s at time (brings t.stop_values t.delay_values t.warp_beats t.warp_lengths s k) k)
  unfolding after_warp_end after_tempo after_delay after_stop after_warp
  arrived-fits s at time WarpEnd h f = (f, h.1)
  arrived-fits s at time Tempo h f = (f, h.1)
  arrived-fits s at time Delay h f = (add-fits binary64 _ _, h.1)
  arrived-fits s at time Stop h f = (add-fits binary64 _ _, h.1)
  arrived-fits s at time Warp h f = (f, larger-fits s.end _ h.1 (add-fits binary64 _ _))

  found-fits : (s : State) (a : Option Next) → NumbersFit s → NumbersFit (past_found early t s a)
  unfolding event_passed time_at
  found-fits s (Some n) h = arrived-fits s n.row _ n.kind h (add-fits binary64 _ _)
  found-fits s None h = h

  after-fits : (n : ℕ) (s : State) → NumbersFit s → NumbersFit (state_after n early t s)
  unfolding state_after
  after-fits zero s h = h
  after-fits (suc n) s h = after-fits n (onward early t s) (found-fits s (ahead t s) h)

pub mark-fits : (t : Timing) (s : State) → NumbersFit s → NumbersFit (end_mark t s).state
unfolding end_mark
mark-fits t s h = let early = early_tempo t.tempo_beats t.tempo_values s in after-fits early t (length (course early t s)) s h
