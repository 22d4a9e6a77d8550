-- A beat answered by a count that a search found is answered as the checked call answers it, and counts fit their column. Assumes nothing.
use Rattle.std.proofs.Common.{◌≡◌, ℕ, ◌≤◌, List, length}
use lib.Ieee.{Float}
use Rattle.order_search.proofs.PlaceSplits.{place-within}
use Rattle.order_search.specs.F32UpTo.{f32_up_to}
use Rattle.clock_tests.specs.TimingNumbers.{beat_number}
use Rattle.notes_displayed.specs.Scrolls.{behind_scrolls, found_up_to, displayed_by}
use Rattle.notes_displayed.specs.Answers.{displayed, checked_at}

pub found-few : (at : Float) (beats : List Float) → found_up_to at beats ≤ length beats
unfolding found_up_to
found-few at beats = place-within (f32_up_to at) beats

pub by_count : (beats ratios prefix : List Float) (at : Float) (n : ℕ) → n ≡ found_up_to at beats → displayed (beat_number at) (behind_scrolls beats ratios prefix n at) ≡ checked_at beats ratios prefix at
unfolding checked_at displayed_by
by_count beats ratios prefix at n e = rw e
