-- `clock::row_of_taken` is the row of a beat that is taken. Assumes nothing.
use mathlib.Core.Bool.{Bool, true, false}
use mathlib.Core.Path.{◌≡◌, refl, sym}
use native.Mathlib.Omega.{arith}
use Prim.Native.Nat.{ℕ}
use lib.Dec.{T}
use lib.Ieee.{Float, of_bits}
use Rattle.picks.specs.Pick.{pick}
use Rattle.rows.specs.Rows.{allowed_beat}
use Rattle.rows.proofs.RowBySum.{mark-number, mark-in64, count-in64, count_in32, row_by_sum}
use Rattle.limits.specs.Numbers.{in_range, up_to}
use Rattle.clock_tests.specs.TimingNumbers.{beat_number}
use Rattle.rows.proofs.Allowed.{taken-allowed}
use borrow.Author.Rules.{rules}
use Rattle.clock.proofs.row_of_taken.Goals as goal

allowed : (beat : Float) → beat_number beat ≡ 0 → T (allowed_beat beat)
unfolding beat_number
allowed beat h = taken-allowed beat (go (in_range (up_to 16) beat) h)
  where
    go : (b : Bool) → ◌≡◌ {A = ℕ} (pick b 0 3) 0 → b ≡ true
    go true h = refl
    go false h = absurd (omega (arith, h))

pub float_to_bits-result : goal.float_to_bits-result
float_to_bits-result c = rw c.row_mark.ensures (mark-number c.args.beat (allowed c.args.beat c.requires))

pub overflow_cast-result : goal.overflow_cast-result
overflow_cast-result c = rw c.row_mark.ensures (mark-in64 c.args.beat (allowed c.args.beat c.requires))

pub overflow_sub-result : goal.overflow_sub-result
overflow_sub-result c = rw c.row_mark.ensures (count-in64 c.args.beat (allowed c.args.beat c.requires))

pub overflow_cast-result-2 : goal.overflow_cast-result-2
overflow_cast-result-2 c = rw c.row_mark.ensures (count_in32 c.args.beat (allowed c.args.beat c.requires))

pub returns : goal.returns
returns c = rw c.row_mark.ensures (row_by_sum c.args.beat (allowed c.args.beat c.requires))
