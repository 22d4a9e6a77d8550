-- Passing one event: how time moves up to it, and the state that it leaves. Definitions only.
use Rattle.std.specs.Prelude.{ℕ, ◌+◌, ◌-◌, true, false, List, [], ◌∷◌, ℤ, ◌-ℤ◌, ◌==◌, slice_index_or, Float}
use Rattle.std.specs.Float.{nan, binary64}
use Rattle.std.specs.Float.Ieee.{add, div, lt, le}
use Rattle.ieee.specs.Constants.{plus_zero, sixty}
use Rattle.picks.specs.Pick.{pick}
use Rattle.rows.specs.Rows.{beat_of}
use Rattle.chart.specs.Timing.{Timing}
use Rattle.chart.specs.declared.State.{State}
use Rattle.clock_walk.specs.declared.Next.{Next}
use Rattle.clock_walk.specs.declared.Event.{Event}
use Rattle.clock_walk.specs.declared.Event.TheVariants.{WarpEnd, Tempo, Delay, Stop, Warp}

-- ---- the tempo in force

-- the value of the last of the leading entries that are at or before a beat, else another
unfoldable pub last_up_to : Float → Float → List Float → List Float → Float
last_up_to beat other [] values = other
last_up_to beat other (b ∷ beats) [] = other
last_up_to beat other (b ∷ beats) (v ∷ values) = pick (le b beat) (last_up_to beat v beats values) other

abbrev pub first_or : Float → List Float → Float
first_or other [] = other
first_or other (v ∷ values) = v

-- where no tempo is passed yet: the one at the beat of the last row, else the first; worked out once, where a walk begins
unfoldable pub tempo_at : List Float → List Float → ℤ → Float
tempo_at beats values at = last_up_to (beat_of binary64 at) (first_or sixty values) beats values

-- the tempo that a walk from this state begins with, if none is passed
unfoldable pub early_tempo : List Float → List Float → State → Float
early_tempo beats values s = pick (s.tempos == 0) (tempo_at beats values s.row) plus_zero

-- the last one passed, before any the one that the walk began with
unfoldable pub in_force : Float → List Float → ℕ → Float
in_force early values place = pick (place == 0) early (slice_index_or values (place - 1) nan)

-- ---- time

-- from the last row to another: beats over beats a second, and none while warping
unfoldable pub time_to : Float → List Float → State → ℤ → Float
time_to early tempo_values s at =
    pick s.warping plus_zero (div binary64 (beat_of binary64 (at -ℤ s.row)) (div binary64 (in_force early tempo_values s.tempos) sixty))

-- the time of a row, worked out beside the state
unfoldable pub time_at : Float → List Float → State → ℤ → Float
time_at early tempo_values s at = add binary64 s.time (time_to early tempo_values s at)

-- ---- the state after an event on a row, at a time

unfoldable pub after_warp_end : State → ℤ → Float → State
after_warp_end s at time = record {
  tempos = s.tempos;
  stops = s.stops;
  delays = s.delays;
  warps = s.warps;
  row = at;
  time = time;
  end = s.end;
  warping = false;
}

unfoldable pub after_tempo : State → ℤ → Float → State
after_tempo s at time = record {
  tempos = s.tempos + 1;
  stops = s.stops;
  delays = s.delays;
  warps = s.warps;
  row = at;
  time = time;
  end = s.end;
  warping = s.warping;
}

-- a delay and a stop let so many seconds pass, warping or not
unfoldable pub after_delay : State → ℤ → Float → Float → State
after_delay s at time seconds = record {
  tempos = s.tempos;
  stops = s.stops;
  delays = s.delays + 1;
  warps = s.warps;
  row = at;
  time = add binary64 time seconds;
  end = s.end;
  warping = s.warping;
}

unfoldable pub after_stop : State → ℤ → Float → Float → State
after_stop s at time seconds = record {
  tempos = s.tempos;
  stops = s.stops + 1;
  delays = s.delays;
  warps = s.warps;
  row = at;
  time = add binary64 time seconds;
  end = s.end;
  warping = s.warping;
}

unfoldable pub larger : Float → Float → Float
larger old new = pick (lt old new) new old

-- A warp's end is the larger of the old one and its own, which may lie before its beat: then the last row goes back at the end.
unfoldable pub after_warp : State → ℤ → Float → Float → State
after_warp s at time own = record {
  tempos = s.tempos;
  stops = s.stops;
  delays = s.delays;
  warps = s.warps + 1;
  row = at;
  time = time;
  end = larger s.end own;
  warping = true;
}

-- ---- passing an event

-- the number that the next event of a kind brings: a pause's seconds, a warp's own end; a tempo and a warp's end bring none
abbrev pub brings : (stop_values delay_values warp_beats warp_lengths : List Float) → State → Event → Float
brings stop_values delay_values warp_beats warp_lengths s WarpEnd = plus_zero
brings stop_values delay_values warp_beats warp_lengths s Tempo = plus_zero
brings stop_values delay_values warp_beats warp_lengths s Delay = slice_index_or delay_values s.delays nan
brings stop_values delay_values warp_beats warp_lengths s Stop = slice_index_or stop_values s.stops nan
brings stop_values delay_values warp_beats warp_lengths s Warp = add binary64 (slice_index_or warp_beats s.warps nan) (slice_index_or warp_lengths s.warps nan)

abbrev pub arrived : State → ℤ → (time number : Float) → Event → State
arrived s at time number WarpEnd = after_warp_end s at time
arrived s at time number Tempo = after_tempo s at time
arrived s at time number Delay = after_delay s at time number
arrived s at time number Stop = after_stop s at time number
arrived s at time number Warp = after_warp s at time number

-- an event that comes at a time, with the number that it brings
unfoldable pub event_passed : State → Next → (time number : Float) → State
event_passed s n time number = arrived s n.row time number n.kind

abbrev pub passing : Float → Timing → State → Next → State
passing early t s n =
    event_passed s n (time_at early t.tempo_values s n.row) (brings t.stop_values t.delay_values t.warp_beats t.warp_lengths s n.kind)
