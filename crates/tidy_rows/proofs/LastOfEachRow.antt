-- The rows of the tidied list are just the given rows, each once, with the value that was given last for it. Assumes nothing.
use Prim.Native.Nat.{ℕ, min}
use mathlib.Core.Path.{◌≡◌, ap, ◌∙◌}
use mathlib.Core.List.{List, [], map}
use lib.ListN.{length, length-map}
use lib.Ieee.{Float}
use Rattle.order.specs.Order.{tidied, only, the_last}
use Rattle.order.specs.Entries.{entries}
use Rattle.order.proofs.TidiedList.{only-tidied}
use Rattle.order.proofs.EachEntry.{only-map, length_the_last}
use Rattle.tidy_rows.specs.RowTidying.{tidy_rows, rows_number}
use Rattle.rows.specs.RowKey.{row_key_of, on_its_row}
use Rattle.tidy_rows.proofs.RowsRise.{keys-agree}

module _ (beats values : List Float) (h : rows_number beats values ≡ 0) (row : ℕ) where
  -- the entry of a row is the last that was given for it, on its row
  pub last_of_row_lem : only row_key_of row (tidy_rows beats values) ≡ map on_its_row (the_last [] (only row_key_of row (entries beats values)))
  unfolding tidy_rows
  last_of_row_lem = only-map on_its_row row_key_of row_key_of row (tidied row_key_of (entries beats values)) (keys-agree beats values h) ∙ ap (map on_its_row) (only-tidied row_key_of row (entries beats values))

  -- one for a row that was given, none for another
  pub row-once : length (only row_key_of row (tidy_rows beats values)) ≡ min 1 (length (only row_key_of row (entries beats values)))
  row-once =
      ap length last_of_row_lem ∙ length-map (the_last [] (only row_key_of row (entries beats values))) on_its_row ∙ length_the_last (only row_key_of row (entries beats values))
