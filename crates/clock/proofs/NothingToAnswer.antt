-- Of every accepted question the next candidate is an event or the asked beat: nothing found is never next. Assumes nothing.
use Prim.Native.Nat.{◌≤◌}
use mathlib.Core.Bool.{true, false}
use mathlib.Core.Path.{◌≡◌, refl}
use native.Mathlib.Omega.{arith}
use borrow.Author.Tests.{lt-ltb}
use lib.IntN.{ℤ, pos, negsuc, nat_abs}
use lib.Signed.{lt_z}
use lib.Ieee.{Float, binary64}
use Rattle.rows.specs.Rows.{row}
use Rattle.rows.proofs.RowWithin.{row_within}
use Rattle.limits.specs.Numbers.{most_row}
use Rattle.limits.proofs.NoRefusal.{lower-none}
use Rattle.rows.proofs.Allowed.{taken-allowed}
use Rattle.chart.specs.Timing.{Timing}
use Rattle.chart.specs.declared.State.{State}
use Rattle.clock_walk.specs.Events.{farthest}
use Rattle.clock_walk.specs.SixCandidates.{next, is_nothing}
use Rattle.clock_walk.proofs.AskedOrAhead.{nothing_never_found}
use Rattle.clock_tests.specs.TimingNumbers.{timing_number, beat_number}
use Rattle.clock_tests.proofs.TimingTaken.{beat-taken}
use Rattle.clock.specs.Question.{cursor_refusal, player_number, question_number}
use Rattle.clock.specs.declared.Cursor.{Cursor}

-- a row within the limit is below the greatest i32
in_range_lem : (r : ℤ) → nat_abs r ≤ most_row → lt_z r farthest ≡ true
in_range_lem (pos n) near = lt-ltb n 2147483647 (omega arith)
in_range_lem (negsuc n) near = refl

pub taken_in_range : (b : Float) → beat_number b ≡ 0 → lt_z (row binary64 b) farthest ≡ true
taken_in_range b h = in_range_lem (row binary64 b) (row_within binary64 b (taken-allowed b (beat-taken b h)))

-- all that matters is that the beat is taken
pub nothing_to_answer : (b : Float) → beat_number b ≡ 0 → (t : Timing) (s : State) → is_nothing (next t (row binary64 b) s) ≡ false
nothing_to_answer b h t s = nothing_never_found t (row binary64 b) s (taken_in_range b h)

-- as it is where a question is accepted
pub question_finds : (t : Timing) (c : Cursor) (offset global b : Float) → question_number t c offset global b ≡ 0 → (u : Timing) (s : State) → is_nothing (next u (row binary64 b) s) ≡ false
unfolding question_number player_number
question_finds t c offset global b h u s = nothing_to_answer b (lower-none (beat_number b) (cursor_refusal t c) (lower-none (timing_number t offset global) (player_number t c b) h).1).0 u s
