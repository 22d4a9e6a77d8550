-- Where no beat of a column is off the grid, no entry that has one of them is. Assumes nothing.
use Rattle.std.proofs.Common.{◌≡◌, ℕ, ◌+◌, ◌≤◌, Bool, true, false, List, [], ◌∷◌, length, take, sym, ap, ◌∙◌, le_trans, arith, take_all}
use lib.Ieee.{Float}
use Rattle.picks.specs.Pick.{pick}
use Rattle.rows.specs.Rows.{on_grid}
use Rattle.limits.specs.Table.{most_entries}
use Rattle.limits.specs.Numbers.{miss, misses}
use Rattle.limits.proofs.HowManyFail.{misses-few}
use Rattle.order.specs.Entries.{entries, first}
use Rattle.columns_each.specs.OffGrid.{moved_in, round_count}
use Rattle.columns_each.proofs.OffGridCounts.{goes_or_on, moved_by_entry, few-held}
use Rattle.chart.specs.declared.TimingFormat.{TimingFormat}
use Rattle.assembly_moved.specs.MovedRaw.{stays_in, moved_raw}

never-more : (stays : Float × Float → Bool) (beats values : List Float) → misses (goes_or_on stays first) (entries beats values) ≤ moved_in beats
unfolding entries misses
never-more stays [] values = omega arith
never-more stays (beat ∷ beats) [] = omega arith
never-more stays (beat ∷ beats) (value ∷ values) = go (stays (beat, value)) (never-more stays beats values)
  where
    go : (t : Bool) → misses (goes_or_on stays first) (entries beats values) ≤ moved_in beats
        → miss (λ (b : Bool). b) (pick t (on_grid beat) true) + misses (goes_or_on stays first) (entries beats values) ≤ miss on_grid beat + moved_in beats
    go true rest = omega arith
    go false rest = omega arith

pub none-moved : (format : TimingFormat) (beats values : List Float) → moved_in beats ≡ 0 → round_count (moved_raw format beats values) ≡ 0
none-moved format beats values none =
    let stays = stays_in format in
    let no : moved_raw format beats values ≡ 0 = sym (moved_by_entry stays first (entries beats values)) ∙ omega (arith, never-more stays beats values) in
    ap round_count no

-- a column that fits into the one that it was quantised into was counted whole
pub counted-whole : (beats : List Float) (room : ℕ) → length beats ≤ room → room ≤ most_entries → round_count (moved_in (take room beats)) ≡ 0 → moved_in beats ≡ 0
counted-whole beats room fits few none =
    sym (few-held (moved_in beats) (le_trans (misses-few on_grid beats) (le_trans fits few)))
    ∙ ap (λ (l : List Float). round_count (moved_in l)) (sym (take_all room beats fits))
    ∙ none
