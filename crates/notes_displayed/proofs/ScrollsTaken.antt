-- Scrolls that are taken: the list is taken by itself, and each beat is at or before the next. Assumes nothing.
use Rattle.std.proofs.Common.{◌≡◌, ℕ, zero, suc, ◌+◌, ◌<◌, Bool, true, false, T, eqb, List, [], ◌∷◌, length, get_or, refl, subst, ⊎_elim, add-one, arith, eqb-true}
use lib.Ieee.{Float, nan, lt, le}
use borrow.Author.Tests.{eqb-false, not-true}
use Rattle.ieee.proofs.FloatOrder.{lt_or_le}
use Rattle.ieee.proofs.Magnitude.{within-finite}
use Rattle.picks.specs.Pick.{pick}
use Rattle.limits.specs.declared.Kind.TheVariants.{Beat, Value}
use Rattle.limits.specs.Numbers.{range_of, in_range, all_in}
use Rattle.limits.specs.Neighbours.{neighbours, every_two, not_falling}
use Rattle.limits.proofs.Every.{every_rest}
use Rattle.limits.proofs.TakenWithin.{taken-within}
use Rattle.limits.proofs.ListTaken.{Taken, list-taken}
use Rattle.notes_displayed.specs.Answers.{scroll_list_number, scroll_columns_number}

pub scrolls-taken : {beats ratios : List Float} → scroll_columns_number beats ratios ≡ 0 → Taken (range_of Beat) (range_of Value) beats ratios × (every_two not_falling beats ≡ true)
unfolding scroll_columns_number
scrolls-taken {beats} {ratios} h = go (eqb (scroll_list_number beats ratios) 0) (every_two not_falling beats) (eqb-true (scroll_list_number beats ratios) 0) (eqb-false (scroll_list_number beats ratios) 0) h
  where
    go : (taken rising : Bool) → (taken ≡ true → scroll_list_number beats ratios ≡ 0) → (taken ≡ false → scroll_list_number beats ratios ≡ 0 → ⊥)
        → pick taken (pick rising 0 5) (scroll_list_number beats ratios) ≡ 0 → Taken (range_of Beat) (range_of Value) beats ratios × (rising ≡ true)
    go true true p q h = (list-taken (p refl), refl)
    go true false p q h = absurd (omega arith)
    go false rising p q h = absurd (q refl h)

-- then each beat is at or before the next
in_order : (beats : List Float) → all_in (range_of Beat) beats ≡ true → every_two not_falling beats ≡ true → (i : ℕ) → suc i < length beats → T (le (get_or beats i nan) (get_or beats (suc i) nan))
unfolding neighbours
in_order [] within rising i h = absurd (omega arith)
in_order (x ∷ []) within rising i h = absurd (omega arith)
in_order (x ∷ y ∷ beats) within rising zero h =
    let stays = (every_rest (λ (e : Float × Float). not_falling e.0 e.1) (x, y) (neighbours (y ∷ beats)) rising).0 in
    let first = every_rest (in_range (range_of Beat)) x (y ∷ beats) within in
    let next = every_rest (in_range (range_of Beat)) y beats first.1 in
    ⊎_elim (λ falls. absurd (subst T (not-true (lt y x) stays) falls)) (λ holds. holds) (lt_or_le y x (within-finite 16 y (taken-within 16 y next.0)) (within-finite 16 x (taken-within 16 x first.0)))
in_order (x ∷ y ∷ beats) within rising (suc i) h =
    in_order (y ∷ beats) (every_rest (in_range (range_of Beat)) x (y ∷ beats) within).1 (every_rest (λ (e : Float × Float). not_falling e.0 e.1) (x, y) (neighbours (y ∷ beats)) rising).1 i (omega arith)

pub beats_in_order : (beats ratios : List Float) → scroll_columns_number beats ratios ≡ 0 → (i : ℕ) → i + 1 < length beats → T (le (get_or beats i nan) (get_or beats (i + 1) nan))
beats_in_order beats ratios taken i h = let list = scrolls-taken taken in rw (add-one i) (in_order beats list.0.beats_in list.1 i (omega arith))
