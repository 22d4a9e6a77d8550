-- `tidy_scrolls::lay_kept` lays what the pass writes. Assumes nothing.
use Rattle.tidy_scrolls.proofs.Turns.{LayingRows}
use Rattle.tidy_scrolls.specs.inside.Ways.{scroll_waiting, no_scroll_held}
use Rattle.tidy_kept.specs.Passing.{still_written}
use Rattle.tidy_kept.specs.Near.{near_to}
use Rattle.rows.specs.RowKey.{row_key_at}
use Rattle.order.specs.Entries.{entries}
use lib.ListN.{drop}
use Prim.Native.Nat.{◌≤◌}
use Rattle.tidy_scrolls.proofs.lay_kept.Given as goal

abbrev pub invariant-loop-i : goal.invariant-loop-i
invariant-loop-i l = (l.count ≤ l.i) × LayingRows (still_written row_key_at near_to no_scroll_held (entries l.beats l.values)) (still_written row_key_at near_to (scroll_waiting l.held) (drop l.i (entries l.beats l.values))) l.initial.out_beats l.out_beats l.initial.out_values l.out_values l.count
