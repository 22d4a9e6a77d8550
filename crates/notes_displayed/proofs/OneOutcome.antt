-- What is said of the prefix and of many beats leaves one outcome: number, count and the rooms to their last place. Assumes nothing.
use Rattle.std.proofs.Common.{◌≡◌, ℕ, List}
use lib.Ieee.{Float}
use Rattle.columns.specs.declared.Outcome.{Outcome}
use Rattle.notes_displayed.specs.Answers.{PrefixLaid, BeatsDisplayed}

pub one_prefix : {beats ratios : List Float} {a b : Outcome} {old new_a new_b : List Float}
    → PrefixLaid beats ratios a old new_a → PrefixLaid beats ratios b old new_b → (a ≡ b) × (new_a ≡ new_b)
one_prefix {a = a} {b = b} x y =
    let same : ◌≡◌ {A = Outcome} (record { number = a.number; count = a.count }) (record { number = b.number; count = b.count }) = cc in
    (same, cc)

pub one_outcome : {scroll_beats scroll_ratios beats : List Float} {a b : Outcome} {numbers_old numbers_a numbers_b : List ℕ} {positions_old positions_a positions_b : List Float}
    → BeatsDisplayed scroll_beats scroll_ratios beats a numbers_old numbers_a positions_old positions_a
    → BeatsDisplayed scroll_beats scroll_ratios beats b numbers_old numbers_b positions_old positions_b
    → (a ≡ b) × (numbers_a ≡ numbers_b) × (positions_a ≡ positions_b)
one_outcome {a = a} {b = b} x y =
    let same : ◌≡◌ {A = Outcome} (record { number = a.number; count = a.count }) (record { number = b.number; count = b.count }) = cc in
    (same, cc, cc)
