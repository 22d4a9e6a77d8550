-- `tidy_scrolls::tidy_rising` lays every entry where each is kept and has room, and else goes the longer way. Assumes nothing.
use Prim.Native.Nat.{◌≤◌, min}
use mathlib.Core.Path.{◌≡◌, sym, ap, ◌∙◌}
use mathlib.Core.List.{List, map}
use native.Mathlib.Omega.{arith}
use lib.ListN.{length}
use lib.Ieee.{Float}
use Rattle.limits.proofs.ListTaken.{list-taken}
use Rattle.order.specs.Order.{laid}
use Rattle.order.specs.Entries.{entries, first, second}
use Rattle.order.proofs.Columns.{length-entries}
use Rattle.columns.proofs.EachOverFront.{copied_over_front}
use Rattle.rows.specs.RowKey.{row_key_at, on_its_row}
use Rattle.rows.proofs.EntriesOnRows.{each-beat, each-value}
use Rattle.tidy_kept.specs.Near.{near_to}
use Rattle.tidy_kept.specs.Passing.{still_written}
use Rattle.tidy_by_rows.proofs.ByMarks.{marked_over_front, rising_never_falls}
use Rattle.tidy_scrolls.specs.inside.Ways.{no_scroll_held}
use Rattle.tidy_scrolls.proofs.AllKept.{every-kept}
use Rattle.tidy_scrolls.proofs.Outcomes.{even-columns, ordered-laid}
use Rattle.tidy_scrolls.proofs.tidy_rising.Goals as goal

pub returns-then-all_apart : goal.returns-then-all_apart
returns-then-all_apart c =
    let s = c in
    let beats = s.args.beats.now in
    let values = s.args.values.now in
    let out-beats = s.args.out_beats.now in
    let out-values = s.args.out_values.now in
    let same = even-columns beats values s.requires.values_value in
    let list = entries beats values in
    let kept = still_written row_key_at near_to no_scroll_held list in
    let every : kept ≡ list = every-kept beats values same s.requires.beats_value (sym c.all_apart.ensures ∙ c.if-all_apart.true) in
    let long : length kept ≡ length beats = ap length every ∙ length-entries beats values same in
    let rooms : length beats ≤ min (length out-beats) (length out-values) = omega (arith, c.if-beats-room_of.true, c.room_of.ensures) in
    let beats_are = ap (λ (l : List (Float × Float)). map first (map on_its_row l)) every ∙ each-beat beats values same in
    let values_are = ap (λ (l : List (Float × Float)). map second (map on_its_row l)) every ∙ each-value beats values same in
    ordered-laid beats values out-beats out-values s.requires.values_value (rising_never_falls beats s.requires.beats_value) _ _ _ (omega (arith, long, rooms)) (omega (arith, long)) (record {
      first_is = c.lay_on_rows.ensures ∙ marked_over_front beats out-beats (list-taken s.requires.values_value).beats_in (omega (arith, rooms)) ∙ ap (λ (l : List Float). laid l out-beats) (sym beats_are);
      second_is = c.copy.ensures ∙ copied_over_front values out-values (omega (arith, rooms, same)) ∙ ap (λ (l : List Float). laid l out-values) (sym values_are);
    })

pub tidy_ordered-requires : goal.tidy_ordered-requires
tidy_ordered-requires c = let s = c in
    record {
      values_value = s.requires.values_value;
      beats_value = rising_never_falls s.args.beats.now s.requires.beats_value;
    }

pub returns : goal.returns
returns c = c.tidy_ordered.ensures
