-- Steps: a walk over the scrolls, and the columns of many beats. Definitions only.
use Rattle.std.specs.Prelude.{◌≡◌, ℕ, List, [], ◌∷◌, Float}
use Rattle.picks.specs.Pick.{pick}
use Rattle.columns.specs.Each.{laid_each}
use Rattle.notes_displayed.specs.Scrolls.{scrolled_on, reaches, displayed_from}
use Rattle.notes_displayed.specs.Answers.{displayed_at}

-- the scrolls up to a beat are passed, and the beat is drawn by the last
unfoldable pub walked : (shown from ratio : Float) → (beats ratios : List Float) → Float → Float
walked shown from ratio [] ratios at = displayed_from shown from ratio at
walked shown from ratio (b ∷ beats) [] at = displayed_from shown from ratio at
walked shown from ratio (b ∷ beats) (r ∷ ratios) at = pick (reaches b at) (walked (scrolled_on shown from ratio b) b r beats ratios at) (displayed_from shown from ratio at)

-- the answers for all beats, over the fronts of both columns
pub record AllDisplayed (scroll_beats scroll_ratios beats : List Float) (numbers_old numbers_new : List ℕ) (positions_old positions_new : List Float) : Type 0 where
  pub numbers_are : numbers_new ≡ laid_each (λ (at : Float). (displayed_at scroll_beats scroll_ratios at).number) beats numbers_old
  pub positions_are : positions_new ≡ laid_each (λ (at : Float). (displayed_at scroll_beats scroll_ratios at).beat) beats positions_old
