-- A part has just its list's stored rows, in rising order: those of pauses strictly, each once; those of warps and fakes as often as they are given. Assumes nothing.
use Prim.Native.Nat.{ℕ, min}
use mathlib.Core.Path.{◌≡◌, ap, ◌∙◌}
use mathlib.Core.Bool.{true, false}
use mathlib.Core.List.{List}
use lib.ListN.{length}
use lib.Ieee.{Float}
use Rattle.order.specs.Order.{only, NeverFalls, Rises}
use Rattle.rows.specs.RowKey.{row_key}
use Rattle.order.proofs.OrderedList.{ordered_never_falls, only-ordered}
use Rattle.order.proofs.TidiedList.{tidied-rises, only-tidied}
use Rattle.order.proofs.EachEntry.{length_the_last}
use Rattle.lookup_row_store.specs.RowStore.{given_rows, store_part}

module _ (beats values : List Float) where
  pub pauses-rise : Rises row_key (store_part true beats values)
  unfolding store_part
  pauses-rise = tidied-rises row_key (given_rows true beats values)

  pub pause_row_once : (key : ℕ) → length (only row_key key (store_part true beats values)) ≡ min 1 (length (only row_key key (given_rows true beats values)))
  unfolding store_part
  pause_row_once key = ap length (only-tidied row_key key (given_rows true beats values)) ∙ length_the_last (only row_key key (given_rows true beats values))

  pub ranges_never_fall : NeverFalls row_key (store_part false beats values)
  unfolding store_part
  ranges_never_fall = ordered_never_falls row_key (given_rows false beats values)

  pub range_rows : (key : ℕ) → only row_key key (store_part false beats values) ≡ only row_key key (given_rows false beats values)
  unfolding store_part
  range_rows key = only-ordered row_key key (given_rows false beats values)
