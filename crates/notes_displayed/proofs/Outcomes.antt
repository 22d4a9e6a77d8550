-- A refusal leaves the rooms as they were, and a call that is taken lays all of its result over their fronts. Assumes nothing.
use Rattle.std.proofs.Common.{◌≡◌, ℕ, ◌<◌, ◌≤◌, min, List, [], ◌∷◌, length, refl, ap, ◌∙◌, arith}
use lib.Ieee.{Float}
use Rattle.order.specs.Order.{laid}
use Rattle.columns.specs.Each.{laid_each}
use Rattle.columns.specs.Laying.{room_number, refused_by, given}
use Rattle.columns.proofs.Rooms.{nothing-given, number_of_tests, number_no_room, number-taken}
use Rattle.columns.proofs.EachOverFront.{each_over_front}
use Rattle.notes_displayed.specs.declared.Displayed.{Displayed}
use Rattle.notes_displayed.specs.Scrolls.{scroll_prefix}
use Rattle.notes_displayed.specs.Answers.{scroll_columns_number, displayed_at, PrefixLaid, BeatsDisplayed}
use Rattle.notes_displayed.specs.inside.Steps.{AllDisplayed}

module _ (beats ratios : List Float) (old : List Float) where
  prefix_left_alone : (n : ℕ) → (n ≡ 0 → ⊥) → n ≡ room_number (scroll_columns_number beats ratios) (length beats) (length old) → PrefixLaid beats ratios (refused_by n) old old
  unfolding laid
  prefix_left_alone n h e = record { number = e; count = rw (nothing-given beats n h); prefix_is = rw (nothing-given (scroll_prefix beats ratios) n h) }

  pub prefix_refused : (n : ℕ) → n ≡ scroll_columns_number beats ratios → (n ≡ 0 → ⊥) → PrefixLaid beats ratios (refused_by n) old old
  prefix_refused n e h = prefix_left_alone n h (e ∙ number_of_tests _ _ _ (λ z. h (e ∙ z)))

  pub prefix_no_room : scroll_columns_number beats ratios ≡ 0 → length old < length beats → PrefixLaid beats ratios (refused_by 7) old old
  prefix_no_room e l = prefix_left_alone 7 (λ z. omega arith) (number_no_room _ _ _ e l)

  pub prefix_laid : (new : List Float) → scroll_columns_number beats ratios ≡ 0 → length beats ≤ length old → new ≡ laid (scroll_prefix beats ratios) old → PrefixLaid beats ratios (record { number = 0; count = length beats }) old new
  unfolding given
  prefix_laid new e l is = record { number = number-taken _ _ _ e l; count = refl; prefix_is = is }

module _ (scroll_beats scroll_ratios beats : List Float) (numbers : List ℕ) (positions : List Float) where
  beats_left_alone : (n : ℕ) → (n ≡ 0 → ⊥) → n ≡ room_number (scroll_columns_number scroll_beats scroll_ratios) (length beats) (min (length numbers) (length positions))
      → BeatsDisplayed scroll_beats scroll_ratios beats (refused_by n) numbers numbers positions positions
  unfolding laid
  beats_left_alone n h e = record { number = e; count = rw (nothing-given beats n h); numbers_are = rw (nothing-given beats n h); positions_are = rw (nothing-given beats n h) }

  pub beats-refused : (n : ℕ) → n ≡ scroll_columns_number scroll_beats scroll_ratios → (n ≡ 0 → ⊥) → BeatsDisplayed scroll_beats scroll_ratios beats (refused_by n) numbers numbers positions positions
  beats-refused n e h = beats_left_alone n h (e ∙ number_of_tests _ _ _ (λ z. h (e ∙ z)))

  pub beats_no_room : scroll_columns_number scroll_beats scroll_ratios ≡ 0 → min (length numbers) (length positions) < length beats → BeatsDisplayed scroll_beats scroll_ratios beats (refused_by 7) numbers numbers positions positions
  beats_no_room e l = beats_left_alone 7 (λ z. omega arith) (number_no_room _ _ _ e l)

  pub beats-displayed : (numbers_new : List ℕ) (positions_new : List Float) → scroll_columns_number scroll_beats scroll_ratios ≡ 0 → length beats ≤ min (length numbers) (length positions)
      → AllDisplayed scroll_beats scroll_ratios beats numbers numbers_new positions positions_new
      → BeatsDisplayed scroll_beats scroll_ratios beats (record { number = 0; count = length beats }) numbers numbers_new positions positions_new
  unfolding given
  beats-displayed numbers_new positions_new e l all = record {
    number = number-taken _ _ _ e l;
    count = refl;
    numbers_are = all.numbers_are ∙ each_over_front (λ (at : Float). (displayed_at scroll_beats scroll_ratios at).number) beats numbers (omega arith);
    positions_are = all.positions_are ∙ each_over_front (λ (at : Float). (displayed_at scroll_beats scroll_ratios at).beat) beats positions (omega arith);
  }

-- ---- all beats, by another call that answers the same
each_same : {B : Type 0} (f g : Float → B) → ((at : Float) → f at ≡ g at) → (beats : List Float) (old : List B) → laid_each f beats old ≡ laid_each g beats old
unfolding laid_each
each_same f g same [] old = refl
each_same f g same (at ∷ beats) [] = refl
each_same f g same (at ∷ beats) (x ∷ old) = rw (same at, each_same f g same beats old)

module _ {scroll_beats scroll_ratios beats : List Float} {numbers numbers_new : List ℕ} {positions positions_new : List Float} (answer : Float → Displayed) (same : (at : Float) → answer at ≡ displayed_at scroll_beats scroll_ratios at) where
  pub all-displayed : numbers_new ≡ laid_each (λ (at : Float). (answer at).number) beats numbers → positions_new ≡ laid_each (λ (at : Float). (answer at).beat) beats positions
      → AllDisplayed scroll_beats scroll_ratios beats numbers numbers_new positions positions_new
  all-displayed n p = record {
    numbers_are = n ∙ each_same (λ (at : Float). (answer at).number) (λ (at : Float). (displayed_at scroll_beats scroll_ratios at).number) (λ at. ap (λ (d : Displayed). d.number) (same at)) beats numbers;
    positions_are = p ∙ each_same (λ (at : Float). (answer at).beat) (λ (at : Float). (displayed_at scroll_beats scroll_ratios at).beat) (λ at. ap (λ (d : Displayed). d.beat) (same at)) beats positions;
  }
