-- What is answered where a beat is drawn: refusals, one beat, many beats, and the prefix. Definitions only.
use Rattle.std.specs.Prelude.{◌≡◌, ℕ, min, List, length, ◌==◌, Float}
use Rattle.ieee.specs.Constants.{plus_zero}
use Rattle.picks.specs.Pick.{pick}
use Rattle.limits.specs.declared.Kind.TheVariants.{Beat, Value}
use Rattle.limits.specs.Table.{not_rising}
use Rattle.limits.specs.Numbers.{range_of}
use Rattle.limits.specs.Neighbours.{every_two, not_falling}
use Rattle.limits.specs.Refusals.{lower, list_number}
use Rattle.order.specs.Order.{laid}
use Rattle.columns.specs.declared.Outcome.{Outcome}
use Rattle.columns.specs.Laying.{room_number, given, column_laid}
use Rattle.clock_tests.specs.TimingNumbers.{beat_number}
use Rattle.notes_displayed.specs.Scrolls.{scroll_prefix, displayed_beat, displayed_by}
use Rattle.notes_displayed.specs.declared.Displayed.{Displayed}

-- ---- refusals

abbrev pub scroll_list_number : (beats ratios : List Float) → ℕ
scroll_list_number beats ratios = list_number (range_of Beat) (range_of Value) beats ratios

-- the scrolls by themselves: 1 to 4, and 5 where a beat is below the one before it; equal ones are taken
unfoldable pub scroll_columns_number : (beats ratios : List Float) → ℕ
scroll_columns_number beats ratios = pick (scroll_list_number beats ratios == 0) (pick (every_two not_falling beats) 0 not_rising) (scroll_list_number beats ratios)

-- and 3 for an asked beat beyond the limit; of two the lower
unfoldable pub displayed_number : (beats ratios : List Float) → Float → ℕ
displayed_number beats ratios at = lower (scroll_columns_number beats ratios) (beat_number at)

-- ---- one beat

-- the position after a refusal is 0
unfoldable pub displayed : ℕ → Float → Displayed
displayed number position = record { number = number; beat = pick (number == 0) position plus_zero }

-- the call that tests all
unfoldable pub displayed_at : (beats ratios : List Float) → Float → Displayed
displayed_at beats ratios at = displayed (displayed_number beats ratios at) (displayed_beat beats ratios at)

-- the call over scrolls that were tested before, and their prefix
unfoldable pub checked_at : (beats ratios prefix : List Float) → Float → Displayed
checked_at beats ratios prefix at = displayed (beat_number at) (displayed_by beats ratios prefix at)

-- ---- columns: the one outcome, to the last place of each room

-- the prefix over the front of its room
pub record PrefixLaid (beats ratios : List Float) (outcome : Outcome) (old new : List Float) : Type 0 where
  pub number : outcome.number ≡ room_number (scroll_columns_number beats ratios) (length beats) (length old)
  pub count : outcome.count ≡ length (given outcome.number beats)
  pub prefix_is : new ≡ laid (given outcome.number (scroll_prefix beats ratios)) old

-- for each beat what the call that tests all answers
pub record BeatsDisplayed (scroll_beats scroll_ratios beats : List Float) (outcome : Outcome) (numbers_old numbers_new : List ℕ) (positions_old positions_new : List Float) : Type 0 where
  pub number : outcome.number ≡ room_number (scroll_columns_number scroll_beats scroll_ratios) (length beats) (min (length numbers_old) (length positions_old))
  pub count : outcome.count ≡ length (given outcome.number beats)
  pub numbers_are : numbers_new ≡ column_laid (λ (at : Float). (displayed_at scroll_beats scroll_ratios at).number) outcome.number beats numbers_old
  pub positions_are : positions_new ≡ column_laid (λ (at : Float). (displayed_at scroll_beats scroll_ratios at).beat) outcome.number beats positions_old
