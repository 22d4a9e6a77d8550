-- `assembly_marks::mark_at` reads a column, and 1 beyond its end. Assumes nothing.
use Prim.Native.Nat.{ℕ, zero, suc, ◌<◌}
use mathlib.Core.Path.{◌≡◌, refl, sym}
use mathlib.Core.List.{List, [], ◌∷◌}
use native.Mathlib.Omega.{arith}
use lib.ListN.{length, get_or, get_or-eq_default}
use Rattle.assembly_marks.proofs.mark_at.Goals as goal

-- within a column what stands for nothing is not read
within : (marks : List ℕ) (place : ℕ) → place < length marks → get_or marks place 0 ≡ get_or marks place 1
within [] place h = absurd (omega arith)
within (m ∷ marks) zero h = refl
within (m ∷ marks) (suc place) h = within marks place (omega arith)

pub returns-then-place-marks : goal.returns-then-place-marks
returns-then-place-marks c = within c.args.marks.now c.args.place c.if-place-marks.true

pub returns-else-place-marks : goal.returns-else-place-marks
returns-else-place-marks c = sym (get_or-eq_default c.args.marks.now 1 c.if-place-marks.false)
