-- What is said of each call's outcome leaves one: number, count, and every room to its last place. Assumes nothing.
use Prim.Native.Nat.{ℕ}
use mathlib.Core.Path.{◌≡◌}
use mathlib.Core.List.{List}
use lib.Ieee.{Float}
use Rattle.columns.specs.declared.Outcome.{Outcome}
use Rattle.tidy_marks.specs.MarkTidying.{MarksTidied}

pub one-marks : {beats : List Float} {marks : List ℕ} {a b : Outcome} {old new_a new_b : List ℕ} → MarksTidied beats marks a old new_a → MarksTidied beats marks b old new_b → (a ≡ b) × (new_a ≡ new_b)
one-marks {a = a} {b = b} x y =
    let same : ◌≡◌ {A = Outcome} (record { number = a.number; count = a.count }) (record { number = b.number; count = b.count }) = cc in (same, cc)
