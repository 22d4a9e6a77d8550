-- What the lengths of two columns say of their number, and their number of them. Assumes nothing.
use Prim.Native.Nat.{ℕ, ◌≤◌}
use mathlib.Core.Path.{◌≡◌, refl}
use mathlib.Core.Bool.{Bool, true, false}
use native.Mathlib.Omega.{arith}
use lib.Dec.{ltb, eqb}
use borrow.Author.Tests.{ltb-false, eqb-true, le-ltb, eq-eqb}
use Rattle.picks.specs.Pick.{pick}
use Rattle.limits.specs.Refusals.{sizes_number}

-- lengths that are taken
passed : (long longer even : Bool) → ◌≡◌ {A = ℕ} (pick long 1 (pick longer 1 (pick even 0 2))) 0 → (long ≡ false) × (even ≡ true)
passed false false true h = (refl, refl)
passed true longer even h = absurd (omega arith)
passed false true even h = absurd (omega arith)
passed false false false h = absurd (omega arith)

pub sizes-taken : (beats values : ℕ) → sizes_number beats values ≡ 0 → (beats ≤ 1024) × (beats ≡ values)
unfolding sizes_number
sizes-taken beats values h =
    let p = passed (ltb 1024 beats) (ltb 1024 values) (eqb beats values) h in
    (ltb-false 1024 beats p.0, eqb-true beats values p.1)

pub taken-sizes : (beats values : ℕ) → beats ≤ 1024 → beats ≡ values → sizes_number beats values ≡ 0
unfolding sizes_number
taken-sizes beats values few same =
    let fewer : values ≤ 1024 = omega arith in
    rw (le-ltb 1024 beats few, le-ltb 1024 values fewer, eq-eqb beats values same)
