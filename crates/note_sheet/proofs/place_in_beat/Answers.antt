-- `note_sheet::place_in_beat` is `place_in_beat`: the remainder, and 48 more where it is negative. Assumes nothing.
use mathlib.Core.Path.{◌≡◌, ap, ◌∙◌}
use native.Mathlib.Omega.{arith}
use lib.IntN.{ℤ, pos, nat_abs, ◌+ℤ◌}
use lib.Signed.{rem_z}
use mir.Syntax.{w32}
use mir.Val.{SFits, to_z, of_z}
use mir.ValLaws.{to_z-of_z}
use Rattle.note_sheet.specs.Snap.{place_in_beat}
use Rattle.note_sheet.proofs.Places.{quot_fits, rest-fits, negative-rest, other-rest}
use Rattle.note_sheet.proofs.SnapOfRow.{place-below}
use Rattle.note_sheet.proofs.place_in_beat.Goals as goal
use Rattle.note_sheet.proofs.place_in_beat.Goals.{Else-rest-lt0, Start, Then-rest-lt0}

own : (c : Start) → to_z w32 (of_z w32 c.args.row) ≡ c.args.row
own c = to_z-of_z w32 c.args.row c.ranges.row

-- the remainder as it is kept
rest : (c : Start) → to_z w32 (of_z w32 (rem_z (to_z w32 (of_z w32 c.args.row)) (pos 48))) ≡ rem_z c.args.row (pos 48)
rest c = rw (own c) (to_z-of_z w32 (rem_z c.args.row (pos 48)) (rest-fits c.args.row))

place-fits : (row : ℤ) → SFits w32 (pos (place_in_beat row))
place-fits row = let h = place-below row in record { sfits = omega arith }

sum : (c : Then-rest-lt0) → to_z w32 (of_z w32 (rem_z (to_z w32 (of_z w32 c.args.row)) (pos 48))) +ℤ pos 48 ≡ pos (place_in_beat c.args.row)
sum c = ap (λ (z : ℤ). z +ℤ pos 48) (rest (goal.at.Then-rest-lt0 c).Start) ∙ negative-rest c.args.row (rw (rest (goal.at.Then-rest-lt0 c).Start) at c.if-rest-lt0.true)

sum_kept : (c : Then-rest-lt0) → to_z w32 (of_z w32 (to_z w32 (of_z w32 (rem_z (to_z w32 (of_z w32 c.args.row)) (pos 48))) +ℤ pos 48)) ≡ pos (place_in_beat c.args.row)
sum_kept c = rw (sum c) (to_z-of_z w32 (pos (place_in_beat c.args.row)) (place-fits c.args.row))

rest-kept : (c : Else-rest-lt0) → to_z w32 (of_z w32 (rem_z (to_z w32 (of_z w32 c.args.row)) (pos 48))) ≡ pos (place_in_beat c.args.row)
rest-kept c = rest (goal.at.Else-rest-lt0 c).Start ∙ other-rest c.args.row (rw (rest (goal.at.Else-rest-lt0 c).Start) at c.if-rest-lt0.false)

pub nonzero_rem-rest : goal.nonzero_rem-rest
nonzero_rem-rest c = (omega arith, rw (own c) (quot_fits c.args.row c.ranges.row))

pub overflow_add-result : goal.overflow_add-result
overflow_add-result c = rw (sum c) (place-fits c.args.row)

pub overflow_cast-result : goal.overflow_cast-result
overflow_cast-result c = let h = place-below c.args.row in rw (sum_kept c) (tt, record { fits = omega arith })

pub returns-then-rest-lt0 : goal.returns-then-rest-lt0
returns-then-rest-lt0 c = ap nat_abs (sum_kept c)

pub overflow_cast-result-2 : goal.overflow_cast-result-2
overflow_cast-result-2 c = let h = place-below c.args.row in rw (rest-kept c) (tt, record { fits = omega arith })

pub returns : goal.returns
returns c = ap nat_abs (rest-kept c)
