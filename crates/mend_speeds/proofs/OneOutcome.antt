-- What is said of mending speeds leaves one outcome: number, count and the five rooms. Assumes nothing.
use Prim.Native.Nat.{ℕ}
use mathlib.Core.Path.{◌≡◌, ap, ◌∙◌, sym}
use mathlib.Core.List.{List}
use Rattle.order.specs.Order.{laid}
use Rattle.columns.specs.declared.Outcome.{Outcome}
use Rattle.columns.specs.Laying.{given}
use Rattle.chart.specs.ChartColumns.{SpeedColumns}
use Rattle.tidy_speeds_entries.proofs.OneOutcome.{one-columns}
use Rattle.mend_speeds.specs.MendedSpeeds.{speed_fates, SpeedsMended}

pub one_outcome : {speeds : SpeedColumns} {a b : Outcome} {old new_a new_b : SpeedColumns} {fates_old fates_a fates_b : List ℕ}
    → SpeedsMended speeds a old new_a fates_old fates_a → SpeedsMended speeds b old new_b fates_old fates_b → (a ≡ b) × (new_a ≡ new_b) × (fates_a ≡ fates_b)
one_outcome {speeds} {fates_old = fates_old} x y =
    let one = one-columns x.list y.list in
    (one.0, one.1, x.fates_are ∙ ap (λ (outcome : Outcome). laid (given outcome.number (speed_fates speeds)) fates_old) one.0 ∙ sym y.fates_are)
