-- `limits::row_taken` compares a row with the limit on either side. Assumes nothing.
use Prim.Native.Nat.{ℕ, suc}
use mathlib.Core.Path.{◌≡◌, refl, sym}
use mathlib.Core.Bool.{true, false}
use native.Mathlib.Omega.{arith}
use mir.Syntax.{w32}
use mir.Val.{to_z, of_z}
use mir.ValLaws.{to_z-of_z}
use lib.IntN.{ℤ, pos, negsuc}
use lib.Signed.{lt_z, le_z}
use borrow.Author.Tests.{ltb-true, ltb-false, le-leb, lt-leb}
use Rattle.limits.specs.Numbers.{row_in}
use Rattle.limits.proofs.row_taken.Goals as goal
use Rattle.limits.proofs.row_taken.Goals.{Start}

below : (row : ℤ) → lt_z row (negsuc 3145727) ≡ true → false ≡ row_in row
unfolding row_in
below (pos n) h = let z : ◌≡◌ {A = ℕ} 0 1 = cc in absurd (omega arith)
below (negsuc n) h = sym (lt-leb (suc n) 3145728 (omega (arith, ltb-true 3145727 n h)))

above : (row : ℤ) → lt_z row (negsuc 3145727) ≡ false → le_z row (pos 3145728) ≡ row_in row
unfolding row_in
above (pos n) h = refl
above (negsuc n) h = sym (le-leb (suc n) 3145728 (omega (arith, ltb-false 3145727 n h)))

own : (c : Start) → to_z w32 (of_z w32 c.args.row) ≡ c.args.row
own c = to_z-of_z w32 c.args.row c.ranges.row

pub returns-then-row-ltminus3145728 : goal.returns-then-row-ltminus3145728
returns-then-row-ltminus3145728 c = below c.args.row (rw (own c.before) at c.if-row-ltminus3145728.true)

pub returns : goal.returns
returns c = rw (own c.before) (above c.args.row (rw (own c.before) at c.if-row-ltminus3145728.false))
