-- The tidied list is no longer than the given one, whatever is given. Assumes nothing.
use Prim.Native.Nat.{◌≤◌, min}
use mathlib.Core.List.{List, [], ◌∷◌}
use native.Mathlib.Omega.{arith}
use lib.ListN.{length, length-map}
use lib.Ieee.{Float}
use Rattle.order.specs.Order.{tidied}
use Rattle.order.specs.Entries.{entries}
use Rattle.order.proofs.TidiedList.{tidied-length}
use Rattle.tidy_rows.specs.RowTidying.{tidy_rows}
use Rattle.rows.specs.RowKey.{row_key_of, on_its_row}

entries-short : {X : Type 0} (beats : List Float) (values : List X) → length (entries beats values) ≤ min (length beats) (length values)
unfolding entries
entries-short [] values = omega arith
entries-short (beat ∷ beats) [] = omega arith
entries-short (beat ∷ beats) (value ∷ values) = omega (arith, entries-short beats values)

pub tidy_no_longer : {X : Type 0} (beats : List Float) (values : List X) → length (tidy_rows beats values) ≤ min (length beats) (length values)
unfolding tidy_rows
tidy_no_longer beats values =
    omega (arith, length-map (tidied row_key_of (entries beats values)) on_its_row, tidied-length row_key_of (entries beats values), entries-short beats values)
