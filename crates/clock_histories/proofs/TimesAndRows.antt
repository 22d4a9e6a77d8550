-- Over a timing that is taken, every time that is given is finite, whatever was asked before, and the last row of every cursor is within the limit. Assumes nothing.
use Prim.Native.Nat.{◌+◌, ◌≤◌}
use mathlib.Core.Path.{◌≡◌}
use native.Mathlib.Omega.{arith}
use lib.Dec.{T}
use lib.IntN.{ℤ, nat_abs}
use lib.Ieee.{Float, binary64, sub}
use lib.Ieee.Scale.{finite}
use Rattle.ieee.proofs.Magnitude.{sized}
use Rattle.ieee.proofs.SizesAddUp.{at_most_finite, sub_at_most}
use Rattle.limits.specs.Numbers.{most_row}
use Rattle.rows.specs.Rows.{row}
use Rattle.limits.proofs.TakenWithin.{taken-within}
use Rattle.chart.specs.Timing.{Timing}
use Rattle.clock_walk.specs.Walk.{walk}
use Rattle.clock_tests.specs.TimingNumbers.{timing_number}
use Rattle.clock_tests.proofs.TimingTaken.{timing-taken}
use Rattle.clock.specs.Question.{filled, fresh_state, fresh_cursor, reply}
use Rattle.clock.specs.History.{Asking, asks, History}
use Rattle.clock.specs.declared.Cursor.{Cursor}
use Rattle.clock_histories.proofs.EachEventKeeps.{spans_after, spans_of_format}
use Rattle.clock_histories.specs.Demand.{used}
use Rattle.clock_histories.proofs.WhereAFreshOneEnds.{new, walked, ends-then}
use Rattle.clock_histories.proofs.WalksAreSound.{walked-fine, walked-time, sound}
use Rattle.clock_histories.proofs.AnyQuestion.{row_near, Comes, used-comes, accepted_is, replies_then}

module _ (t : Timing) (offset global : Float) (taken : timing_number t offset global ≡ 0) where
  -- the time of a walk from a fresh state, with the global offset taken off
  walk_less_global : (r : ℤ) → nat_abs r ≤ most_row → T (finite (sub binary64 (walk (filled t) r (fresh_state offset global)).time global))
  walk_less_global r near =
      let p = (walk (filled t) r (fresh_state offset global)).passed in
      let fine = walked-fine t offset global (timing-taken taken) r near in
      let few = fine.few in
      at_most_finite
      (sub_at_most binary64 (spans_of_format (spans_after p + 1 + 1) (omega arith)) (walk (filled t) r (fresh_state offset global)).time global (walked-time t offset global (timing-taken taken) r near)
      (sized 20 global (taken-within 20 global (timing-taken taken).global_in)) (omega arith))

  -- a question that is not refused gives a finite time; no history before it is a fresh cursor
  pub times-finite : (before : History) (way : Asking) (b : Float) → (asks way t (used t offset global before) offset global b).number ≡ 0
      → T (finite (asks way t (used t offset global before) offset global b).time)
  unfolding reply
  times-finite before way b n =
      let c = used t offset global before in
      let come = used-comes t offset global taken before in
      let e = accepted_is t offset global taken way c b come n in
      rw (replies_then t offset global taken way c b come n, ends-then (filled t) offset global (sound taken).usable c (row binary64 b) come) (walk_less_global (row binary64 b) (row_near b e))

  near_in : (c : Cursor) → Comes t offset global taken c → nat_abs c.state.row ≤ most_row
  unfolding fresh_cursor fresh_state
  near_in c (new e) = rw e (omega arith)
  near_in c (walked near e) = rw e (walked-fine t offset global (timing-taken taken) c.asked near).near

  pub last_row_near : (history : History) → nat_abs (used t offset global history).state.row ≤ most_row
  last_row_near history = near_in (used t offset global history) (used-comes t offset global taken history)
