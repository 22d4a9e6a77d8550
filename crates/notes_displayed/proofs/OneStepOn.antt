-- The prefix by its entries: as many as there are scrolls, and the next one by a step from the last. Assumes nothing.
use Rattle.std.proofs.Common.{◌≡◌, ℕ, zero, suc, ◌+◌, ◌<◌, List, [], ◌∷◌, length, get_or, drop, refl, ap, add-one, arith, drop-cons}
use lib.Ieee.{Float, nan, binary64, add, sub, mul}
use Rattle.notes_displayed.specs.Scrolls.{scrolled_on, prefix_from, scroll_prefix}

pub prefix_from_length : (shown from ratio : Float) (beats ratios : List Float) → length beats ≡ length ratios → length (prefix_from shown from ratio beats ratios) ≡ length beats
unfolding prefix_from
prefix_from_length shown from ratio [] ratios even = refl
prefix_from_length shown from ratio (b ∷ beats) [] even = absurd (omega arith)
prefix_from_length shown from ratio (b ∷ beats) (r ∷ ratios) even = ap suc (prefix_from_length (scrolled_on shown from ratio b) b r beats ratios (omega arith))

pub prefix_length : (beats ratios : List Float) → length beats ≡ length ratios → length (scroll_prefix beats ratios) ≡ length beats
unfolding scroll_prefix
prefix_length beats ratios even = prefix_from_length _ _ _ beats ratios even

-- what is left of the prefix, where scrolls are left
pub prefix_next : (shown from ratio : Float) (beats ratios : List Float) (i : ℕ) → i < length beats → length beats ≡ length ratios
    → let next = get_or beats i nan in
    prefix_from shown from ratio (drop i beats) (drop i ratios) ≡ scrolled_on shown from ratio next ∷ prefix_from (scrolled_on shown from ratio next) next (get_or ratios i nan) (drop (i + 1) beats) (drop (i + 1) ratios)
unfolding prefix_from
prefix_next shown from ratio beats ratios i more even = rw (add-one i, drop-cons beats i nan more, drop-cons ratios i nan (omega arith))

-- an entry of the prefix by the one before it: three roundings
from_step : (shown from ratio : Float) (beats ratios : List Float) (i : ℕ) → suc i < length beats → length beats ≡ length ratios
    → get_or (prefix_from shown from ratio beats ratios) (suc i) nan ≡ scrolled_on (get_or (prefix_from shown from ratio beats ratios) i nan) (get_or beats i nan) (get_or ratios i nan) (get_or beats (suc i) nan)
unfolding prefix_from
from_step shown from ratio [] ratios i h even = absurd (omega arith)
from_step shown from ratio (b ∷ beats) [] i h even = absurd (omega arith)
from_step shown from ratio (b ∷ []) (r ∷ ratios) i h even = absurd (omega arith)
from_step shown from ratio (b ∷ c ∷ beats) (r ∷ []) i h even = absurd (omega arith)
from_step shown from ratio (b ∷ c ∷ beats) (r ∷ q ∷ ratios) zero h even = refl
from_step shown from ratio (b ∷ c ∷ beats) (r ∷ q ∷ ratios) (suc i) h even = from_step (scrolled_on shown from ratio b) b r (c ∷ beats) (q ∷ ratios) i (omega arith) (omega arith)

pub prefix_step : (beats ratios : List Float) (i : ℕ) → suc i < length beats → length beats ≡ length ratios
    → get_or (scroll_prefix beats ratios) (suc i) nan ≡ add binary64 (get_or (scroll_prefix beats ratios) i nan) (mul binary64 (sub binary64 (get_or beats (suc i) nan) (get_or beats i nan)) (get_or ratios i nan))
unfolding scroll_prefix scrolled_on
prefix_step beats ratios i h even = from_step _ _ _ beats ratios i h even
