-- The last scroll at or before a beat draws it, of scrolls on one beat too. Assumes nothing.
use Rattle.std.proofs.Common.{◌≡◌, ℕ, suc, ◌-◌, true, List, [], ◌∷◌, get_or, arith, ne_eqb}
use lib.Ieee.{Float, nan, le}
use Rattle.ieee.specs.Constants.{plus_zero}
use Rattle.order_search.specs.Search.{SplitBy}
use Rattle.notes_displayed.specs.Scrolls.{scrolled_on, prefix_from, ratio_before, scroll_prefix, reaches, up_to_beat, displayed_from, behind_scrolls, displayed_beat}
use Rattle.notes_displayed.proofs.CheckedIsTested.{split-counts}

-- with n + 1 scrolls at or before the beat and no more, the one at place n draws it
pub last-counts : (beats ratios : List Float) (at : Float) (n : ℕ) → SplitBy at beats (suc n)
    → displayed_beat beats ratios at ≡ displayed_from (get_or (scroll_prefix beats ratios) n nan) (get_or beats n nan) (get_or ratios n nan) at
unfolding displayed_beat behind_scrolls
last-counts beats ratios at n split =
    let less : suc n - 1 ≡ n = omega arith in
    rw (← split-counts at beats (suc n) split, ne_eqb (suc n) 0 (λ z. omega arith), less)

-- two scrolls on one beat: from there on the second ratio draws, and the first has moved nothing but what a step of no length moves
pub equal_beats_last_counts : (b first second : Float) (at : Float) → le b at ≡ true
    → displayed_beat (b ∷ b ∷ []) (first ∷ second ∷ []) at ≡ displayed_from (scrolled_on (scrolled_on plus_zero plus_zero ratio_before b) b first b) b second at
unfolding displayed_beat behind_scrolls up_to_beat reaches scroll_prefix prefix_from
equal_beats_last_counts b first second at passes = rw passes
