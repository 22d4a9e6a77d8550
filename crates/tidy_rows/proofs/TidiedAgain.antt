-- Tidying a tidied list gives it back. Assumes nothing.
use mathlib.Core.Path.{◌≡◌, refl, ap, ◌∙◌}
use mathlib.Core.List.{List, [], ◌∷◌, map}
use lib.IntN.{ℤ}
use lib.Ieee.{Float, binary64}
use Rattle.rows.specs.Rows.{beat_of}
use Rattle.order.specs.Order.{tidied}
use Rattle.order.specs.Entries.{entries, first, second}
use Rattle.order.proofs.OrderedList.{Each}
use Rattle.order.proofs.TidiedList.{tidied-still}
use Rattle.order.proofs.Columns.{entries-columns}
use Rattle.tidy_rows.specs.RowTidying.{tidy_rows, rows_number}
use Rattle.rows.specs.RowKey.{beat_on_row, row_key_of, on_its_row}
use Rattle.tidy_rows.proofs.RowsRise.{Allowed, same_row, kept-allowed, tidy_rows_rise}

moved-once : (l : List (Float × Float)) → Each row_key_of Allowed l → map on_its_row (map on_its_row l) ≡ map on_its_row l
moved-once [] p = refl
moved-once (e ∷ l) p =
    let there : beat_on_row (beat_on_row e.0) ≡ beat_on_row e.0 = ap (λ (r : ℤ). beat_of binary64 r) (same_row e.0 p.0) in
    ap (λ (beat : Float). (beat, e.1) ∷ map on_its_row (map on_its_row l)) there ∙ ap (◌∷◌ (on_its_row e)) (moved-once l p.1)

module _ (beats values : List Float) (h : rows_number beats values ≡ 0) where
  still : map on_its_row (tidy_rows beats values) ≡ tidy_rows beats values
  unfolding tidy_rows
  still = moved-once (tidied row_key_of (entries beats values)) (kept-allowed beats values h)

  pub tidy_rows_again : tidy_rows (map first (tidy_rows beats values)) (map second (tidy_rows beats values)) ≡ tidy_rows beats values
  tidy_rows_again =
      unfold tidy_rows in ap (λ (l : List (Float × Float)). map on_its_row (tidied row_key_of l)) (entries-columns (tidy_rows beats values))
      ∙ ap (map on_its_row) (tidied-still row_key_of (tidy_rows beats values) (tidy_rows_rise beats values h)) ∙ still
