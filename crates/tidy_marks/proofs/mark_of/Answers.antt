-- `tidy_marks::mark_of` meets its contract. Assumes nothing.
use mathlib.Core.Path.{sym, ap}
use mathlib.Core.Bool.{Bool}
use Prim.Native.Nat.{ℕ}
use lib.Ieee.{of_bits}
use Rattle.picks.specs.Pick.{pick}
use Rattle.tidy_marks.specs.inside.MarkNumbers.{number_mark}
use Rattle.tidy_marks.proofs.mark_of.Goals as goal

pub returns-then-number : goal.returns-then-number
unfolding number_mark of_bits
returns-then-number c = sym (ap (λ (b : Bool). pick {A = ℕ} b 1 0) c.if-number.true)

pub returns-else-number : goal.returns-else-number
unfolding number_mark of_bits
returns-else-number c = sym (ap (λ (b : Bool). pick {A = ℕ} b 1 0) c.if-number.false)
