-- What the pass over entries in order holds, and what it writes. Definitions only.
use Rattle.std.specs.Prelude.{false, List, map, Float}
use Rattle.std.specs.Float.{nan}
use Rattle.ieee.specs.Constants.{plus_zero}
use Rattle.rows.specs.RowKey.{row_key_at, on_its_row}
use Rattle.tidy_kept.specs.Near.{near_to}
use Rattle.tidy_kept.specs.Passing.{Waiting, still_written}
use Rattle.tidy_scrolls.specs.declared.Held.{Held}

abbrev pub scroll_waiting : Held → Waiting Float Float
scroll_waiting s = record { before = s.before; waits = s.waits; row = s.row; beat = s.beat; value = s.value }

-- before the first entry: no value is near a NaN
abbrev pub no_scroll_held : Waiting Float Float
no_scroll_held = record { before = nan; waits = false; row = 0; beat = plus_zero; value = plus_zero }

-- what the pass writes from a state on
abbrev pub written_from : Waiting Float Float → List (Float × Float) → List (Float × Float)
written_from s list = map on_its_row (still_written row_key_at near_to s list)
