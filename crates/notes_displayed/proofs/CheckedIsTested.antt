-- Scrolls that are taken, and their prefix in the front of any room: the call that goes by the prefix answers what the call that tests all answers. Assumes nothing.
use Rattle.std.proofs.Common.{◌≡◌, ℕ, zero, suc, ◌-◌, ◌<◌, ◌≤◌, Bool, true, false, T, eqb, List, [], ◌∷◌, length, get_or, refl, ap, ◌∙◌, arith}
use lib.ListN.{get_or-append}
use lib.Ieee.{Float, nan, binary32, fits}
use borrow.Author.Tests.{eqb-false}
use Rattle.picks.specs.Pick.{pick}
use Rattle.limits.proofs.NoRefusal.{none-lower}
use Rattle.order.specs.Order.{laid}
use Rattle.order_search.specs.Search.{place_of, SplitBy}
use Rattle.order_search.specs.F32UpTo.{f32_up_to}
use Rattle.order_search.proofs.OrderedSplits.{ordered-splits}
use Rattle.order_search.proofs.F32UpToIsLe.{f32_up_to_is_le}
use Rattle.notes_displayed.specs.Scrolls.{scroll_prefix, reaches, up_to_beat, displayed_from, behind_scrolls, displayed_beat, found_up_to, displayed_by}
use Rattle.notes_displayed.specs.Answers.{scroll_columns_number, displayed_number, displayed_at, checked_at}
use Rattle.notes_displayed.proofs.OneStepOn.{prefix_length}
use Rattle.notes_displayed.proofs.ScrollsTaken.{scrolls-taken, beats_in_order}

-- how many scrolls there are up to a beat, at the most
pub up_to_few : (at : Float) (beats : List Float) → up_to_beat at beats ≤ length beats
unfolding up_to_beat
up_to_few at [] = omega arith
up_to_few at (b ∷ beats) = go (reaches b at) (up_to_few at beats)
  where
    go : (t : Bool) → up_to_beat at beats ≤ length beats → pick t (suc (up_to_beat at beats)) 0 ≤ length (b ∷ beats)
    go true h = omega arith
    go false h = omega arith

-- where a list is split by a beat, the entries before are those that are counted
pub split-counts : (at : Float) (beats : List Float) (n : ℕ) → SplitBy at beats n → n ≡ up_to_beat at beats
unfolding up_to_beat reaches
split-counts at [] n s = omega (arith, s.within)
split-counts at (b ∷ beats) zero s = rw (s.after 0 (omega arith) (omega arith))
split-counts at (b ∷ beats) (suc n) s = rw (s.before 0 (omega arith)) (ap suc (split-counts at beats n (record {
  within = omega (arith, s.within);
  before = λ i h. s.before (suc i) (omega arith);
  after = λ i h l. s.after (suc i) (omega arith) (omega arith);
})))

-- only the front of the prefix is read
front_read : (beats ratios prefix room : List Float) (n : ℕ) (at : Float) → n ≤ length prefix → behind_scrolls beats ratios (laid prefix room) n at ≡ behind_scrolls beats ratios prefix n at
unfolding behind_scrolls laid
front_read beats ratios prefix room n at few = go (eqb n 0) (eqb-false n 0)
  where
    go : (t : Bool) → (t ≡ false → n ≡ 0 → ⊥)
        → pick t at (displayed_from (get_or (laid prefix room) (n - 1) nan) (get_or beats (n - 1) nan) (get_or ratios (n - 1) nan) at) ≡ pick t at (displayed_from (get_or prefix (n - 1) nan) (get_or beats (n - 1) nan) (get_or ratios (n - 1) nan) at)
    go true h = refl
    go false h = let inside : n - 1 < length prefix = omega (arith, few, h refl) in rw (get_or-append prefix _ nan (n - 1) inside)

-- f32s at or before a beat are those at or before its f32
as_f32 : (at : Float) (beats : List Float) → ((i : ℕ) → T (fits binary32 (get_or beats i nan))) → up_to_beat (f32_up_to at) beats ≡ up_to_beat at beats
unfolding up_to_beat reaches
as_f32 at [] f32 = refl
as_f32 at (b ∷ beats) f32 = rw (f32_up_to_is_le b at (f32 0), as_f32 at beats (λ i. f32 (suc i)))

module _ (beats ratios room : List Float) (f32 : (i : ℕ) → T (fits binary32 (get_or beats i nan))) (taken : scroll_columns_number beats ratios ≡ 0) where
  -- the search finds as many as are counted
  found : (at : Float) → found_up_to at beats ≡ up_to_beat at beats
  unfolding found_up_to
  found at = split-counts (f32_up_to at) beats (place_of (f32_up_to at) beats) (ordered-splits (f32_up_to at) beats (beats_in_order beats ratios taken)) ∙ as_f32 at beats f32

  pub displayed_checked_is_tested : (at : Float) → checked_at beats ratios (laid (scroll_prefix beats ratios) room) at ≡ displayed_at beats ratios at
  unfolding checked_at displayed_at displayed_number displayed_by displayed_beat
  displayed_checked_is_tested at =
      let even = (scrolls-taken taken).0.even in
      let few : up_to_beat at beats ≤ length (scroll_prefix beats ratios) = omega (arith, up_to_few at beats, prefix_length beats ratios even) in
      rw (taken, none-lower, found at, front_read beats ratios (scroll_prefix beats ratios) room (up_to_beat at beats) at few)
