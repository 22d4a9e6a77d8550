-- What is said of many rows looked up leaves one outcome: number, count and the room to its last place. Assumes nothing.
use Rattle.std.proofs.Common.{◌≡◌, ℕ, Bool, List, ℤ}
use Rattle.columns.specs.declared.Outcome.{Outcome}
use Rattle.lookup.specs.Lookups.{Judged}

pub one_outcome : {tests : ℕ} {judge : ℤ → Bool} {rows : List ℤ} {a b : Outcome} {old new_a new_b : List ℕ}
    → Judged tests judge rows a old new_a → Judged tests judge rows b old new_b → (a ≡ b) × (new_a ≡ new_b)
one_outcome {a = a} {b = b} x y =
    let same : ◌≡◌ {A = Outcome} (record { number = a.number; count = a.count }) (record { number = b.number; count = b.count }) = cc in
    (same, cc)
