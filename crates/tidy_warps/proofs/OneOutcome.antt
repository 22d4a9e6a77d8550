-- What is said of the call's outcome leaves one: number, count, and every room to its last place. Assumes nothing.
use Prim.Native.Nat.{ℕ}
use mathlib.Core.Path.{◌≡◌}
use mathlib.Core.List.{List}
use lib.Ieee.{Float}
use Rattle.columns.specs.declared.Outcome.{Outcome}
use Rattle.tidy_warps.specs.WarpTidying.{WarpsTidied}

pub one_outcome : {beats lengths : List Float} {marks : List ℕ} {a b : Outcome} {beats_old beats_a beats_b lengths_old lengths_a lengths_b : List Float} {marks_old marks_a marks_b : List ℕ}
    → WarpsTidied beats lengths marks a beats_old beats_a lengths_old lengths_a marks_old marks_a → WarpsTidied beats lengths marks b beats_old beats_b lengths_old lengths_b marks_old marks_b
    → (a ≡ b) × (beats_a ≡ beats_b) × (lengths_a ≡ lengths_b) × (marks_a ≡ marks_b)
one_outcome {a = a} {b = b} x y =
    let same : ◌≡◌ {A = Outcome} (record { number = a.number; count = a.count }) (record { number = b.number; count = b.count }) = cc in (same, cc, cc, cc)
