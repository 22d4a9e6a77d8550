-- The walk to a time: no beat is asked, and events are passed as long as they are over by then. Definitions only.
use Rattle.std.specs.Prelude.{Bool, true, false, not, Float, Option, Some, None}
use Rattle.std.specs.Float.{binary64}
use Rattle.std.specs.Float.Ieee.{add, lt}
use Rattle.picks.specs.Pick.{pick}
use Rattle.chart.specs.Timing.{Timing}
use Rattle.clock_walk.specs.Events.{ahead}
use Rattle.clock_walk.specs.Passing.{in_force, time_at, brings}
use Rattle.clock_walk.specs.Course.{Stopped, pass_while}
use Rattle.chart.specs.declared.State.{State}
use Rattle.clock_walk.specs.declared.Next.{Next}
use Rattle.clock_walk.specs.declared.Event.{Event}
use Rattle.clock_walk.specs.declared.Event.TheVariants.{WarpEnd, Tempo, Delay, Stop, Warp}
use Rattle.clock_walk.specs.declared.Pausing.{Pausing}
use Rattle.clock_walk.specs.declared.Pausing.TheVariants.{InDelay, InFreeze, NoPause}
use Rattle.clock_walk.specs.declared.ByTime.{ByTime}

-- ---- an event by a time

-- it has come: its time is not above the elapsed one
unfoldable pub has_come : (elapsed early : Float) → Timing → State → Next → Bool
has_come elapsed early t s n = not (lt elapsed (time_at early t.tempo_values s n.row))

abbrev pub is_delay_or_stop : Event → Bool
is_delay_or_stop WarpEnd = false
is_delay_or_stop Tempo = false
is_delay_or_stop Delay = true
is_delay_or_stop Stop = true
is_delay_or_stop Warp = false

-- a delay or a stop still runs where its seconds, from the time on at which it came, are not over
unfoldable pub still_runs : (elapsed time seconds : Float) → Event → Bool
still_runs elapsed time seconds kind = pick (is_delay_or_stop kind) (lt elapsed (add binary64 time seconds)) false

-- over: it has come, and does not run any more
unfoldable pub over_by : (elapsed early : Float) → Timing → State → Next → Bool
over_by elapsed early t s n =
    pick (has_come elapsed early t s n)
    (not
    (still_runs elapsed (time_at early t.tempo_values s n.row) (brings t.stop_values t.delay_values t.warp_beats t.warp_lengths s n.kind) n.kind))
    false

abbrev pub is_found_over : (elapsed early : Float) → Timing → State → Option Next → Bool
is_found_over elapsed early t s (Some n) = over_by elapsed early t s n
is_found_over elapsed early t s None = false

-- what is ahead is over
abbrev pub is_ahead_over : (elapsed early : Float) → Timing → State → Bool
is_ahead_over elapsed early t s = is_found_over elapsed early t s (ahead t s)

-- ---- the walk

-- early is the tempo before any is passed
unfoldable pub passed_by : (elapsed early : Float) → Timing → State → Stopped
passed_by elapsed early t s = pass_while (is_ahead_over elapsed early t) early t s 0

-- the pause that an event is
abbrev pub pause_of : Event → Pausing
pause_of WarpEnd = NoPause
pause_of Tempo = NoPause
pause_of Delay = InDelay
pause_of Stop = InFreeze
pause_of Warp = NoPause

abbrev pub pause_found : (elapsed early : Float) → Timing → State → Option Next → Pausing
pause_found elapsed early t s (Some n) = pick (has_come elapsed early t s n) (pause_of n.kind) NoPause
pause_found elapsed early t s None = NoPause

-- What a walk stopped in: what has come and is not over, and that is a delay or a stop (`stopped_in_a_pause`).
abbrev pub pausing : (elapsed early : Float) → Timing → State → Pausing
pausing elapsed early t s = pause_found elapsed early t s (ahead t s)

-- where events stopped, with the pause there and the tempo in force
abbrev pub stopped_by : (elapsed early : Float) → Timing → Stopped → ByTime
stopped_by elapsed early t w = record {
  state = w.state;
  passed = w.passed;
  pause = pausing elapsed early t w.state;
  tempo = in_force early t.tempo_values w.state.tempos;
}

unfoldable pub walk_by : (elapsed early : Float) → Timing → State → ByTime
walk_by elapsed early t s = stopped_by elapsed early t (passed_by elapsed early t s)
