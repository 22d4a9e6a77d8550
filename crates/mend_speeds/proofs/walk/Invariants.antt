-- `mend_speeds::walk` meets its contract, place by place in the order of rows. Assumes nothing.
use mathlib.Core.Path.{◌≡◌}
use lib.ListN.{length}
use Rattle.tidy_speeds_entries.specs.Speed.{near_speed, no_speed, speed_values}
use Rattle.mend_fates.proofs.BeatsWalked.{Walking}
use Rattle.mend_speeds.proofs.walk.Given as goal

abbrev pub invariant-loop-i : goal.invariant-loop-i
invariant-loop-i l = (length l.kept ≡ length l.initial.kept) × Walking no_speed near_speed l.beats (speed_values l.ratios l.delays l.units) l.initial.fates l.fates l.kept l.count l.i
