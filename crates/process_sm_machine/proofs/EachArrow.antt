-- One law for each arrow of the table at the head of the definitions: from this state, with this, the state that follows and all that is written. Assumes nothing.
use Rattle.std.specs.Prelude.{None}
use mathlib.Core.Bool.{Bool, true, false, ◌&&◌}
use mathlib.Core.Path.{◌≡◌, refl}
use lib.Ieee.{Float, binary32, add, lt}
use Rattle.ieee.specs.Constants.{plus_zero32}
use Rattle.process_sm_machine.specs.declared.Opened.{Opened}
use Rattle.process_sm_machine.specs.declared.Warp.{Warp}
use Rattle.process_sm_machine.specs.declared.Warp.TheVariants.{Closed, Open}
use Rattle.process_sm_machine.specs.declared.State.{State}
use Rattle.process_sm_machine.specs.Fate.{owing}
pub use Rattle.process_sm_machine.proofs.PauseKeeps.{pause_keeps}
use Rattle.process_sm_machine.specs.Machine.{fits, entry_at, warp_over, tempo_after, still, open_chart, owed_at, settled_at, keep_warp, close_by_time, pass_in_warp, pass, tempo_outside, meet_tempo, stop_outside, close_by_stop, begin_again, stop_in_warp, meet_stop, warp_end_of, finish_warp, finish}

abbrev at : Float → Float → Warp → State
at tempo beat warp = record { tempo = tempo; beat = beat; warp = warp }

-- a warp that starts at a beat, with this tempo before it and this much owed
abbrev pub starting : Float → Float → Float → Warp
starting beat former owed = Open (record { start = beat; former = former; owed = owed })

and_true : (a b : Bool) → a ≡ true → b ≡ true → a && b ≡ true
and_true a b h k = rw (h, k)

-- ---- the opening

module _ (tempo : Float) where
  pub opening-written : fits tempo ≡ true → open_chart tempo ≡ record { state = at tempo plus_zero32 Closed; tempo = entry_at plus_zero32 tempo; stop = None; warp = None }
  unfolding open_chart
  opening-written f = rw f

  pub opening_unwritten : fits tempo ≡ false → open_chart tempo ≡ still (at tempo plus_zero32 Closed)
  unfolding open_chart
  opening_unwritten f = rw f

  pub opening_opens_no_warp : (open_chart tempo).state.warp ≡ Closed
  unfolding open_chart
  opening_opens_no_warp = refl

-- ---- in no warp

module _ (state : State) (closed : state.warp ≡ Closed) where
  pub time-outside : (beat : Float) → pass state beat ≡ still (at state.tempo beat Closed)
  unfolding pass
  time-outside beat = rw closed

  pub tempo-written : (tempo : Float) → fits tempo ≡ true
      → meet_tempo state tempo ≡ record { state = at tempo state.beat Closed; tempo = entry_at state.beat tempo; stop = None; warp = None }
  unfolding meet_tempo tempo_outside
  tempo-written tempo f = rw (closed, f)

  pub tempo_opens : (tempo : Float) → fits tempo ≡ false → meet_tempo state tempo ≡ still (at tempo state.beat (starting state.beat state.tempo plus_zero32))
  unfolding meet_tempo tempo_outside
  tempo_opens tempo f = rw (closed, f)

  pub stop_opens : (length : Float) → lt length plus_zero32 ≡ true → meet_stop state length ≡ still (at state.tempo state.beat (starting state.beat state.tempo length))
  unfolding meet_stop stop_outside
  stop_opens length h = rw (closed, h)

  pub stop-written : (length : Float) → lt length plus_zero32 ≡ false
      → meet_stop state length ≡ record { state = at state.tempo state.beat Closed; tempo = None; stop = entry_at state.beat length; warp = None }
  unfolding meet_stop stop_outside
  stop-written length h = rw (closed, h)

  pub end-outside : finish state ≡ still (at state.tempo state.beat Closed)
  unfolding finish
  end-outside = rw closed

-- ---- in a warp

module _ (state : State) (warp : Opened) (in_warp_lem : state.warp ≡ Open warp) where
  module _ (beat : Float) where
    abbrev owed : Float
    owed = owed_at state.tempo state.beat warp.owed beat

    pub time-ends : fits state.tempo ≡ true → lt plus_zero32 owed ≡ true
        → pass state beat ≡ record { state = at state.tempo beat Closed; tempo = tempo_after warp state.tempo; stop = None; warp = warp_over warp.start (settled_at state.tempo beat owed) }
    unfolding pass pass_in_warp close_by_time
    time-ends f h = rw (in_warp_lem, and_true (fits state.tempo) (lt plus_zero32 owed) f h)

    pub time-keeps : fits state.tempo && lt plus_zero32 owed ≡ false → pass state beat ≡ still (at state.tempo beat (owing warp owed))
    unfolding pass pass_in_warp keep_warp
    time-keeps h = rw (in_warp_lem, h)

  pub tempo-keeps : (tempo : Float) → meet_tempo state tempo ≡ still (at tempo state.beat (Open warp))
  unfolding meet_tempo
  tempo-keeps tempo = rw in_warp_lem

  module _ (length : Float) where
    abbrev rest : Float
    rest = add binary32 warp.owed length

    pub stop-ends : lt plus_zero32 length ≡ true → lt plus_zero32 rest ≡ true → fits state.tempo ≡ true
        → meet_stop state length ≡ record { state = at state.tempo state.beat Closed; tempo = tempo_after warp state.tempo; stop = entry_at state.beat rest; warp = warp_over warp.start state.beat }
    unfolding meet_stop stop_in_warp close_by_stop
    stop-ends h k f = rw (in_warp_lem, and_true (lt plus_zero32 length) (lt plus_zero32 rest) h k, f)

    pub stop_begins_again : lt plus_zero32 length ≡ true → lt plus_zero32 rest ≡ true → fits state.tempo ≡ false
        → meet_stop state length ≡ record { state = at state.tempo state.beat (starting state.beat warp.former plus_zero32); tempo = None; stop = entry_at state.beat rest; warp = warp_over warp.start state.beat }
    unfolding meet_stop stop_in_warp begin_again
    stop_begins_again h k f = rw (in_warp_lem, and_true (lt plus_zero32 length) (lt plus_zero32 rest) h k, f)

    pub stop-keeps : lt plus_zero32 length && lt plus_zero32 rest ≡ false → meet_stop state length ≡ still (at state.tempo state.beat (owing warp rest))
    unfolding meet_stop stop_in_warp keep_warp
    stop-keeps h = rw (in_warp_lem, h)

  pub end_in_warp : finish state ≡ record { state = at state.tempo state.beat Closed; tempo = tempo_after warp state.tempo; stop = None; warp = warp_over warp.start (warp_end_of state.tempo state.beat warp.owed) }
  unfolding finish finish_warp
  end_in_warp = rw in_warp_lem
