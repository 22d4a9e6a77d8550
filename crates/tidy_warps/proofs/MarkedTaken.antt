-- Marks that are taken beside a list of warps: as many as there are beats, and each a mark. Assumes nothing.
use Prim.Native.Nat.{ℕ, ◌≤◌}
use mathlib.Core.Path.{◌≡◌, refl}
use mathlib.Core.Bool.{Bool, true, false}
use mathlib.Core.List.{List}
use native.Mathlib.Omega.{arith}
use lib.Dec.{ltb, eqb}
use lib.ListN.{length}
use lib.Ieee.{Float}
use borrow.Author.Tests.{eqb-true, le-ltb, eq-eqb}
use Rattle.picks.specs.Pick.{pick}
use Rattle.limits.specs.declared.Kind.TheVariants.{Beat, Value}
use Rattle.limits.specs.Numbers.{range_of, every}
use Rattle.limits.proofs.NoRefusal.{lower-none, none-lower}
use Rattle.limits.proofs.ListTaken.{Taken, list-taken}
use Rattle.tidy_rows.specs.RowTidying.{rows_number}
use Rattle.tidy_warps.specs.Marks.{is_mark, marks_number}
use Rattle.tidy_warps.specs.WarpTidying.{marked_warps_number}

passed : (long even marks : Bool) → ◌≡◌ {A = ℕ} (pick long 1 (pick even (pick marks 0 4) 2)) 0 → (even ≡ true) × (marks ≡ true)
passed false true true h = (refl, refl)
passed true even marks h = absurd (omega arith)
passed false false marks h = absurd (omega arith)
passed false true false h = absurd (omega arith)

module _ (beats : List Float) (marks : List ℕ) where
  pub marks-taken : marks_number (length beats) marks ≡ 0 → (length beats ≡ length marks) × (every is_mark marks ≡ true)
  unfolding marks_number
  marks-taken h =
      let p = passed (ltb 1024 (length marks)) (eqb (length beats) (length marks)) (every is_mark marks) h in (eqb-true (length beats) (length marks) p.0, p.1)

  pub marks-pass : length beats ≤ 1024 → length beats ≡ length marks → every is_mark marks ≡ true → marks_number (length beats) marks ≡ 0
  unfolding marks_number
  marks-pass few even are = rw (le-ltb 1024 (length marks) (omega arith), eq-eqb (length beats) (length marks) even, are)

-- a list of warps with its marks
module _ (beats lengths : List Float) (marks : List ℕ) where
  pub both-taken : rows_number beats lengths ≡ 0 → marks_number (length beats) marks ≡ 0 → marked_warps_number beats lengths marks ≡ 0
  both-taken list are = rw (list, are) (none-lower 0)

  module _ (h : marked_warps_number beats lengths marks ≡ 0) where
    pub list-passed : Taken (range_of Beat) (range_of Value) beats lengths
    list-passed = list-taken (lower-none _ _ h).0

    pub marks-beside : length beats ≡ length marks
    marks-beside = (marks-taken beats marks (lower-none _ _ h).1).0
