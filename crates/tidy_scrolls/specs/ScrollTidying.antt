-- Scroll tidying. Definitions only.
use Rattle.std.specs.Prelude.{ℕ, List, map, Float}
use Rattle.limits.specs.declared.Kind.TheVariants.{Beat, Value}
use Rattle.limits.specs.Numbers.{range_of}
use Rattle.limits.specs.Refusals.{lower, list_number}
use Rattle.order.specs.Entries.{entries}
use Rattle.columns.specs.declared.Outcome.{Outcome}
use Rattle.columns.specs.Laying.{LaidPair}
use Rattle.rows.specs.RowKey.{row_key_at, on_its_row}
use Rattle.tidy_kept.specs.Near.{near_to}
use Rattle.tidy_kept.specs.Keeping.{kept_of, keep_number}

-- the kept entries, each on its row
unfoldable pub tidy_scrolls : List Float → List Float → List (Float × Float)
tidy_scrolls beats values = map on_its_row (kept_of row_key_at near_to (entries beats values))

-- the tests of the list, then whether an entry is placed in a kept list that falls
unfoldable pub scrolls_number : List Float → List Float → ℕ
scrolls_number beats values = lower (list_number (range_of Beat) (range_of Value) beats values) (keep_number row_key_at near_to (entries beats values))

-- the one outcome of the call, with the rooms of beats and of values before and after
abbrev pub ScrollsTidied : List Float → List Float → Outcome → List Float → List Float → List Float → List Float → Type 0
ScrollsTidied beats values outcome beats_old beats_new values_old values_new =
    LaidPair (scrolls_number beats values) (tidy_scrolls beats values) outcome beats_old beats_new values_old values_new
