-- What is said of mending scrolls leaves one outcome: number, count and the three rooms. Assumes nothing.
use Prim.Native.Nat.{ℕ}
use mathlib.Core.Path.{◌≡◌, ap, ◌∙◌, sym}
use mathlib.Core.List.{List}
use Rattle.order.specs.Order.{laid}
use Rattle.columns.specs.declared.Outcome.{Outcome}
use Rattle.columns.specs.Laying.{given}
use Rattle.columns.proofs.OneOutcome.{one-pair}
use Rattle.chart.specs.ChartColumns.{ListColumns}
use Rattle.mend_scrolls.specs.MendedScrolls.{scroll_fates, ScrollsMended}

pub one_outcome : {scrolls : ListColumns} {a b : Outcome} {old new_a new_b : ListColumns} {fates_old fates_a fates_b : List ℕ}
    → ScrollsMended scrolls a old new_a fates_old fates_a → ScrollsMended scrolls b old new_b fates_old fates_b → (a ≡ b) × (new_a ≡ new_b) × (fates_a ≡ fates_b)
one_outcome {scrolls} {fates_old = fates_old} x y =
    let one = one-pair x.list y.list in (
      one.0,
      λ i. record { beats = one.1 i; values = one.2 i },
      x.fates_are ∙ ap (λ (outcome : Outcome). laid (given outcome.number (scroll_fates scrolls)) fates_old) one.0 ∙ sym y.fates_are,
    )
