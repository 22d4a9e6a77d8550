-- The arrow that is not there: whatever its size, a pause in a warp that leaves the owed time at or below 0 ends no warp and writes nothing. Assumes nothing.
use mathlib.Core.Bool.{Bool, true, false, ◌&&◌}
use mathlib.Core.Path.{◌≡◌, refl}
use lib.Ieee.{Float, binary32, add, lt}
use Rattle.ieee.specs.Constants.{plus_zero32}
use Rattle.process_sm_machine.specs.declared.Opened.{Opened}
use Rattle.process_sm_machine.specs.declared.Warp.TheVariants.{Open}
use Rattle.process_sm_machine.specs.declared.State.{State}
use Rattle.process_sm_machine.specs.Machine.{still, keep_warp, stop_in_warp, meet_stop}
use Rattle.process_sm_machine.specs.Fate.{owing}

and_false : (a b : Bool) → b ≡ false → a && b ≡ false
and_false true b h = h
and_false false b h = refl

pub pause_keeps : (state : State) (warp : Opened) (pause : Float) → state.warp ≡ Open warp → lt plus_zero32 (add binary32 warp.owed pause) ≡ false
    → meet_stop state pause ≡ still (record { tempo = state.tempo; beat = state.beat; warp = owing warp (add binary32 warp.owed pause) })
unfolding meet_stop stop_in_warp keep_warp
pause_keeps state warp pause in_warp_lem h = rw (in_warp_lem, and_false (lt plus_zero32 pause) (lt plus_zero32 (add binary32 warp.owed pause)) h)
