-- Beats and marks as a list of their own: what its tests say one by one, and what a list of warps that is taken says of it. Assumes nothing.
use Prim.Native.Nat.{ℕ, ◌≤◌}
use mathlib.Core.Path.{◌≡◌, refl}
use mathlib.Core.Bool.{Bool, true, false}
use mathlib.Core.List.{List}
use native.Mathlib.Omega.{arith}
use lib.Dec.{ltb, eqb}
use lib.ListN.{length}
use lib.Ieee.{Float}
use borrow.Author.Tests.{ltb-false, eqb-true, le-ltb, eq-eqb}
use Rattle.picks.specs.Pick.{pick}
use Rattle.limits.specs.declared.Kind.TheVariants.{Beat, Value}
use Rattle.limits.specs.Numbers.{range_of, all_in, every}
use Rattle.limits.specs.Refusals.{sizes_number}
use Rattle.limits.proofs.NoRefusal.{lower-none}
use Rattle.limits.proofs.ListTaken.{Taken, list-taken}
use Rattle.tidy_warps.specs.Marks.{is_mark, marks_number}
use Rattle.tidy_warps.specs.WarpTidying.{marked_warps_number}
use Rattle.tidy_marks.specs.MarkTidying.{marked_number}

-- ---- test by test
by-sizes : (long longer even : Bool) (later : ℕ) → (◌≡◌ {A = ℕ} (pick long 1 (pick longer 1 (pick even 0 2))) 0 → ⊥) → pick long 1 (pick longer 1 (pick even 0 2)) ≡ pick long 1 (pick longer 1 (pick even later 2))
by-sizes true longer even later h = refl
by-sizes false true even later h = refl
by-sizes false false true later h = absurd (h refl)
by-sizes false false false later h = refl

passed-sizes : (long longer even : Bool) (later : ℕ) → ◌≡◌ {A = ℕ} (pick long 1 (pick longer 1 (pick even 0 2))) 0 → pick long 1 (pick longer 1 (pick even later 2)) ≡ later
passed-sizes true longer even later h = absurd (omega arith)
passed-sizes false true even later h = absurd (omega arith)
passed-sizes false false true later h = refl
passed-sizes false false false later h = absurd (omega arith)

module _ (beats : List Float) (marks : List ℕ) where
  pub refused_by_sizes : (sizes_number (length beats) (length marks) ≡ 0 → ⊥) → sizes_number (length beats) (length marks) ≡ marked_number beats marks
  unfolding sizes_number marked_number
  refused_by_sizes h = by-sizes (ltb 1024 (length beats)) (ltb 1024 (length marks)) (eqb (length beats) (length marks)) _ h

  pub sizes-passed : sizes_number (length beats) (length marks) ≡ 0 → marked_number beats marks ≡ pick (all_in (range_of Beat) beats) (pick (every is_mark marks) 0 4) 3
  unfolding sizes_number marked_number
  sizes-passed h = passed-sizes (ltb 1024 (length beats)) (ltb 1024 (length marks)) (eqb (length beats) (length marks)) _ h

-- ---- a list that is taken
pub record MarkedList (beats : List Float) (marks : List ℕ) : Type 0 where
  pub few : length beats ≤ 1024
  pub even : length beats ≡ length marks
  pub beats_in : all_in (range_of Beat) beats ≡ true
  pub marks_in : every is_mark marks ≡ true

passed : (long longer even beats marks : Bool) → ◌≡◌ {A = ℕ} (pick long 1 (pick longer 1 (pick even (pick beats (pick marks 0 4) 3) 2))) 0 → (long ≡ false) × (even ≡ true) × (beats ≡ true) × (marks ≡ true)
passed false false true true true h = (refl, refl, refl, refl)
passed true longer even beats marks h = absurd (omega arith)
passed false true even beats marks h = absurd (omega arith)
passed false false false beats marks h = absurd (omega arith)
passed false false true false marks h = absurd (omega arith)
passed false false true true false h = absurd (omega arith)

passed-marks : (long even marks : Bool) → ◌≡◌ {A = ℕ} (pick long 1 (pick even (pick marks 0 4) 2)) 0 → (even ≡ true) × (marks ≡ true)
passed-marks false true true h = (refl, refl)
passed-marks true even marks h = absurd (omega arith)
passed-marks false false marks h = absurd (omega arith)
passed-marks false true false h = absurd (omega arith)

module _ (beats : List Float) (marks : List ℕ) where
  pub marked-list : marked_number beats marks ≡ 0 → MarkedList beats marks
  unfolding marked_number
  marked-list h =
      let p = passed (ltb 1024 (length beats)) (ltb 1024 (length marks)) (eqb (length beats) (length marks)) (all_in (range_of Beat) beats) (every is_mark marks) h in
      record { few = ltb-false 1024 (length beats) p.0; even = eqb-true (length beats) (length marks) p.1; beats_in = p.2; marks_in = p.3 }

  pub marked-passes : MarkedList beats marks → marked_number beats marks ≡ 0
  unfolding marked_number
  marked-passes p =
      rw (le-ltb 1024 (length beats) p.few, le-ltb 1024 (length marks) (omega (arith, p.few, p.even)), eq-eqb (length beats) (length marks) p.even, p.beats_in, p.marks_in)

  -- marks that are taken beside so many beats
  pub marks-taken : marks_number (length beats) marks ≡ 0 → (length beats ≡ length marks) × (every is_mark marks ≡ true)
  unfolding marks_number
  marks-taken h =
      let p = passed-marks (ltb 1024 (length marks)) (eqb (length beats) (length marks)) (every is_mark marks) h in (eqb-true (length beats) (length marks) p.0, p.1)

-- a list of warps that is taken, with its marks
module _ (beats lengths : List Float) (marks : List ℕ) (h : marked_warps_number beats lengths marks ≡ 0) where
  pub list-passed : Taken (range_of Beat) (range_of Value) beats lengths
  list-passed = list-taken (lower-none _ _ h).0

  pub marks-passed : MarkedList beats marks
  marks-passed =
      let m = marks-taken beats marks (lower-none _ _ h).1 in
      record { few = list-passed.few; even = m.0; beats_in = list-passed.beats_in; marks_in = m.1 }
