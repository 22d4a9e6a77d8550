-- No speed is near the one before the first. Assumes nothing.
use mathlib.Core.Path.{◌≡◌}
use mathlib.Core.Bool.{false}
use lib.Ieee.{nan}
use Rattle.tidy_kept.proofs.NearNothing.{near-nothing}
use Rattle.tidy_speeds_entries.specs.Speed.{SpeedValue, near_speed, no_speed}

pub near_no_speed : (v : SpeedValue) → near_speed v no_speed ≡ false
unfolding near_speed
near_no_speed v = rw (near-nothing v.0)
