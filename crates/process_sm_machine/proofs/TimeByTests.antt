-- What time does in a warp, by the tests that the code makes. Assumes nothing.
use mathlib.Core.Bool.{true, false}
use mathlib.Core.Path.{◌≡◌}
use lib.Ieee.{Float, lt}
use Rattle.ieee.specs.Constants.{plus_zero32}
use Rattle.process_sm_machine.specs.declared.Opened.{Opened}
use Rattle.process_sm_machine.specs.Machine.{fits, owed_at, keep_warp, close_by_time, pass_in_warp}

module _ (tempo last : Float) (warp : Opened) (beat owed : Float) (e : owed ≡ owed_at tempo last warp.owed beat) where
  pub pass-close : fits tempo ≡ true → lt plus_zero32 owed ≡ true → close_by_time tempo beat warp owed ≡ pass_in_warp tempo last warp beat
  unfolding pass_in_warp
  pass-close f h = rw (← e, f, h)

  pub pass-keep : fits tempo ≡ true → lt plus_zero32 owed ≡ false → keep_warp tempo beat warp owed ≡ pass_in_warp tempo last warp beat
  unfolding pass_in_warp
  pass-keep f h = rw (← e, f, h)

  pub pass_unfit : fits tempo ≡ false → keep_warp tempo beat warp owed ≡ pass_in_warp tempo last warp beat
  unfolding pass_in_warp
  pass_unfit f = rw (← e, f)
