-- A walk to a row that is taken on to a later row is the walk to the later row. Assumes nothing.
use Rattle.std.proofs.Common.{◌≡◌, ℕ, false, ℤ, ap}
use lib.Signed.{lt_z}
use lib.Ieee.{Float}
use Rattle.chart.specs.Timing.{Timing}
use Rattle.clock_walk.specs.Walk.{is_due, ended, walk_on}
use Rattle.chart.specs.declared.State.{State}
use Rattle.clock_walk.proofs.AllWalks.{passed_on}
use Rattle.clock_walk.proofs.ClockTest.{says_due, due-later}

pub walked_on : (early : Float) (t : Timing) (r q : ℤ) → lt_z q r ≡ false
    → (s : State) (n : ℕ) → walk_on early t q s n ≡ walk_on early t q (walk_on early t r s n).state (walk_on early t r s n).passed
unfolding walk_on
walked_on early t r q later s n = ap (ended early t q) (passed_on early t (is_due t r) (is_due t q) (says_due t q) (due-later t r q later) s n)
