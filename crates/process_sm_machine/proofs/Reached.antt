-- Time brings the state to the beat of the change, and the change leaves it there. Assumes nothing.
use mathlib.Core.Bool.{◌&&◌}
use mathlib.Core.Path.{◌≡◌, refl}
use lib.Ieee.{Float, binary32, add, lt}
use Rattle.ieee.specs.Constants.{plus_zero32}
use Rattle.process_sm_machine.specs.declared.Change.{Change}
use Rattle.process_sm_machine.specs.declared.Change.TheVariants.{Tempo, Stop}
use Rattle.process_sm_machine.specs.declared.Warp.{Warp}
use Rattle.process_sm_machine.specs.declared.Warp.TheVariants.{Closed, Open}
use Rattle.process_sm_machine.specs.declared.State.{State}
use Rattle.process_sm_machine.specs.declared.Moved.{Moved}
use Rattle.process_sm_machine.proofs.Either.{either}
use Rattle.process_sm_machine.specs.Machine.{fits, owed_at, keep_warp, close_by_time, pass_in_warp, pass_by, pass, tempo_outside, tempo_by, meet_tempo, stop_outside, close_by_stop, begin_again, stop_in_warp, stop_by, meet_stop, meet}

abbrev At : Float → Moved → Type 0
At beat moved = moved.state.beat ≡ beat

by-pass : (warp : Warp) (tempo last beat : Float) → At beat (pass_by warp tempo last beat)
unfolding pass_in_warp close_by_time keep_warp
by-pass Closed tempo last beat = refl
by-pass (Open warp) tempo last beat = either (At beat) (fits tempo && lt plus_zero32 (owed_at tempo last warp.owed beat)) _ _ refl refl

pub pass-reaches : (state : State) (beat : Float) → (pass state beat).state.beat ≡ beat
unfolding pass
pass-reaches state beat = by-pass state.warp state.tempo state.beat beat

by-tempo : (warp : Warp) (former beat tempo : Float) → At beat (tempo_by warp former beat tempo)
unfolding tempo_outside
by-tempo Closed former beat tempo = either (At beat) (fits tempo) _ _ refl refl
by-tempo (Open warp) former beat tempo = refl

by-stop : (warp : Warp) (tempo beat length : Float) → At beat (stop_by warp tempo beat length)
unfolding stop_outside stop_in_warp close_by_stop begin_again keep_warp
by-stop Closed tempo beat length = either (At beat) (lt length plus_zero32) _ _ refl refl
by-stop (Open warp) tempo beat length =
    either (At beat) (lt plus_zero32 length && lt plus_zero32 (add binary32 warp.owed length)) _ _ (either (At beat) (fits tempo) _ _ refl refl) refl

pub meet_stays : (state : State) (change : Change) → (meet state change).state.beat ≡ state.beat
unfolding meet_tempo meet_stop
meet_stays state (Tempo entry) = by-tempo state.warp state.tempo state.beat entry.value
meet_stays state (Stop entry) = by-stop state.warp state.tempo state.beat entry.value
