-- `mend_scrolls::walk` meets its contract, place by place in the order of rows. Assumes nothing.
use mathlib.Core.Path.{◌≡◌}
use lib.ListN.{length}
use lib.Ieee.{nan}
use Rattle.tidy_kept.specs.Near.{near_to}
use Rattle.mend_fates.proofs.BeatsWalked.{Walking}
use Rattle.mend_scrolls.proofs.walk.Given as goal

abbrev pub invariant-loop-i : goal.invariant-loop-i
invariant-loop-i l = (length l.kept ≡ length l.initial.kept) × Walking nan near_to l.beats l.values l.initial.fates l.fates l.kept l.count l.i
