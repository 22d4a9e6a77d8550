-- `ieee::anchor` meets its contract, by the laws of `AnchorPattern.antt`. Assumes nothing.
use mathlib.Core.Path.{sym, subst}
use mathlib.Core.Bool.{false}
use Prim.Native.Nat.{ℕ, ◌^◌}
use native.Mathlib.Omega.{arith}
use lib.Dec.{T}
use lib.Ieee.{of_bits}
use Rattle.ieee.proofs.AnchorPattern.{moved, moved-number, anchor_moved, anchor_least}
use Rattle.ieee.proofs.StepPower.{Around, around}
use Rattle.ieee.proofs.Values.{finite_of, finite_number}
use Rattle.ieee.proofs.anchor.Goals as goal
use Rattle.ieee.proofs.anchor.Goals.{Start}

around-of : (c : Start) → (n : ℕ) × Around c.args.a n
around-of c = around c.args.a (subst T (sym c.well_formed.0.1) tt) c.requires.0 c.requires.1

pub float_to_bits-scaled : goal.float_to_bits-scaled
float_to_bits-scaled c = let a = c.args.a in finite_number a (finite_of a false (around-of c).0 (2 ^ 1074) (around-of c).1.is)

pub overflow_mul-scaled : goal.overflow_mul-scaled
overflow_mul-scaled c = let l = (around-of c).1.field in omega arith

pub overflow_add-scaled : goal.overflow_add-scaled
overflow_add-scaled c = let l = (around-of c).1.field in omega arith

pub float_from_bits-scaled : goal.float_from_bits-scaled
unfolding moved
float_from_bits-scaled c = moved-number c.args.a (around-of c).0 (around-of c).1

pub returns-then-scaled : goal.returns-then-scaled
unfolding moved of_bits
returns-then-scaled c = anchor_moved c.args.a (around-of (goal.at.returns-then-scaled c).Start).0 (around-of (goal.at.returns-then-scaled c).Start).1 c.if-scaled.true

pub returns-else-scaled : goal.returns-else-scaled
unfolding moved of_bits
returns-else-scaled c = anchor_least c.args.a (around-of (goal.at.returns-else-scaled c).Start).0 (around-of (goal.at.returns-else-scaled c).Start).1 c.if-scaled.false
