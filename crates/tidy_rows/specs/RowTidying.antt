-- Row tidying. Definitions only.
use Rattle.std.specs.Prelude.{ℕ, List, map, Float}
use Rattle.limits.specs.declared.Kind.TheVariants.{Beat, Value}
use Rattle.limits.specs.Numbers.{range_of}
use Rattle.limits.specs.Refusals.{list_number}
use Rattle.rows.specs.RowKey.{row_key_of, on_its_row}
use Rattle.order.specs.Order.{tidied}
use Rattle.order.specs.Entries.{entries}
use Rattle.columns.specs.declared.Outcome.{Outcome}
use Rattle.columns.specs.Laying.{LaidPair}

-- strictly rising by row, each row with the value that came last for it, each beat moved to its row. A value is never looked at, so it may be anything
unfoldable pub tidy_rows : {X : Type 0} → List Float → List X → List (Float × X)
tidy_rows beats values = map on_its_row (tidied row_key_of (entries beats values))

-- the tests of a list before it is tidied
abbrev pub rows_number : List Float → List Float → ℕ
rows_number beats values = list_number (range_of Beat) (range_of Value) beats values

-- the one outcome of the call, with the rooms of beats and of values before and after
abbrev pub RowsTidied : List Float → List Float → Outcome → List Float → List Float → List Float → List Float → Type 0
RowsTidied beats values outcome beats_old beats_new values_old values_new =
    LaidPair (rows_number beats values) (tidy_rows beats values) outcome beats_old beats_new values_old values_new
