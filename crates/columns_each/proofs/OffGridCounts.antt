-- Beats off the grid: a list that loses none counts its column, a list that does not counts what passes neither test, and no list that is taken counts round.
-- Assumes nothing.
use Rattle.std.proofs.Common.{◌≡◌, ℕ, ◌+◌, ◌≤◌, Bool, true, false, List, [], ◌∷◌, map, length, take, sym, refl, ap, ◌∙◌, le_trans, lt_of_le_of_lt, mod-eq_of_lt, arith, lit<, take_all, ne_eqb}
use lib.ListN.{length-map}
use lib.Ieee.{Float}
use Rattle.picks.specs.Pick.{pick}
use Rattle.rows.specs.Rows.{on_grid}
use Rattle.limits.specs.Numbers.{miss, misses}
use Rattle.limits.specs.Table.{most_entries}
use Rattle.limits.proofs.HowManyFail.{misses-few}
use Rattle.columns.specs.declared.Outcome.{Outcome}
use Rattle.columns.specs.Kept.{kept}
use Rattle.columns.proofs.KeptLaid.{few-kept}
use Rattle.columns_each.specs.OffGrid.{moved_of, moved_in, moved_under, always, round_count}
use Rattle.columns_each.specs.declared.ListOutcome.{ListOutcome}

none_dropped : {E : Type 0} (list : List E) → kept always (λ (e : E). e) list ≡ list
unfolding kept
none_dropped [] = refl
none_dropped (e ∷ list) = ap (◌∷◌ e) (none_dropped list)

-- a list that loses none
pub all-counted : {E : Type 0} (beat_of : E → Float) (list : List E) → moved_of always beat_of list ≡ moved_in (map beat_of list)
unfolding moved_of
all-counted {E} beat_of list = ap (λ (l : List E). moved_in (map beat_of l)) (none_dropped list)

module _ {E : Type 0} (stays : E → Bool) (beat_of : E → Float) where
  -- an entry that goes passes, and so does one on the grid
  abbrev pub goes_or_on : E → Bool
  goes_or_on e = pick (stays e) (on_grid (beat_of e)) true

  -- as a loop over all entries counts them
  pub moved_by_entry : (list : List E) → misses goes_or_on list ≡ moved_of stays beat_of list
  unfolding moved_of misses kept
  moved_by_entry [] = refl
  moved_by_entry (e ∷ list) = go (stays e) (moved_by_entry list)
    where
      go : (t : Bool) → misses goes_or_on list ≡ misses on_grid (map beat_of (kept stays (λ (x : E). x) list))
          → miss (λ (b : Bool). b) (pick t (on_grid (beat_of e)) true) + misses goes_or_on list
          ≡ misses on_grid (map beat_of (pick t (e ∷ kept stays (λ (x : E). x) list) (kept stays (λ (x : E). x) list)))
      go true rest = ap (λ (n : ℕ). miss on_grid (beat_of e) + n) rest
      go false rest = omega arith

  pub moved-few : (list : List E) → moved_of stays beat_of list ≤ length list
  unfolding moved_of
  moved-few list =
      let stayed = kept stays (λ (e : E). e) list in
      omega (arith, misses-few on_grid (map beat_of stayed), length-map stayed beat_of, few-kept stays (λ (e : E). e) list)

-- ---- no list that is taken counts round
pub few-held : (n : ℕ) → n ≤ most_entries → round_count n ≡ n
few-held n h = mod-eq_of_lt (lt_of_le_of_lt h (lit< tt))

-- the count of a column that is quantised whole
pub whole-counted : (beats old : List Float) → length old ≡ length beats → length beats ≤ most_entries → round_count (moved_in (take (length old) beats)) ≡ moved_in beats
whole-counted beats old same few =
    let all : length beats ≤ length old = omega arith in
    ap (λ (l : List Float). round_count (moved_in l)) (take_all (length old) beats all) ∙ few-held (moved_in beats) (le_trans (misses-few on_grid beats) few)

-- ---- what a call hands up: the count of a list that is taken, and none of one that is refused
module _ {outcome : Outcome} {r : ListOutcome} (off moved : ℕ) (same : r.outcome ≡ outcome) (count : r.moved ≡ moved_under outcome.number off) where
  up : moved_under outcome.number off ≡ moved_under outcome.number moved → r.moved ≡ moved_under r.outcome.number moved
  up e = count ∙ e ∙ ap (λ (o : Outcome). moved_under o.number moved) (sym same)

  pub handed_up : off ≡ moved → r.moved ≡ moved_under r.outcome.number moved
  handed_up e = up (ap (moved_under outcome.number) e)

  pub none_handed_up : (outcome.number ≡ 0 → ⊥) → r.moved ≡ moved_under r.outcome.number moved
  none_handed_up h = up (rw (ne_eqb outcome.number 0 h))
