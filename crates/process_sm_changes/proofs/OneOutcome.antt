-- What is said of a raw list as SM's changes leaves one outcome: number, count and both columns. Assumes nothing.
use mathlib.Core.Path.{◌≡◌, sym}
use mathlib.Core.List.{List}
use lib.Ieee.{Float}
use Rattle.columns.specs.declared.Outcome.{Outcome}
use Rattle.columns.proofs.OneOutcome.{one_list}
use Rattle.process_sm_changes.specs.SmChanges.{ChangesLaid}

pub one_outcome : {beats values : List Float} {a b : Outcome} {beats_old beats_a beats_b values_old values_a values_b : List Float}
    → ChangesLaid beats values a beats_old beats_a values_old values_a → ChangesLaid beats values b beats_old beats_b values_old values_b
    → (a ≡ b) × (beats_a ≡ beats_b) × (values_a ≡ values_b)
one_outcome {a = a} {b = b} x y =
    let number : a.number ≡ b.number = cc in
    let list = one_list x.changes (rw (sym number) at y.changes) in
    let same : ◌≡◌ {A = Outcome} (record { number = a.number; count = a.count }) (record { number = b.number; count = b.count }) = cc in
    (same, list.1, list.2)
