-- Whether an entry of a list is the last of its run, by the entry at the next place. Assumes nothing.
use mathlib.Core.Path.{◌≡◌}
use mathlib.Core.Bool.{true, not}
use mathlib.Core.List.{List}
use Prim.Native.Nat.{ℕ, ◌+◌, ◌≤◌, ◌<◌}
use lib.Dec.{eqb}
use lib.ListN.{length, get_or, drop, drop_of_length-le}
use lib.Seq.{drop-cons}
use Rattle.order.specs.Order.{is_last}

module _ {A : Type 0} (key : A → ℕ) (none : A) (list : List A) (i : ℕ) where
  pub last_by_next : i + 1 < length list → is_last key (get_or list i none) (drop (i + 1) list) ≡ not (eqb (key (get_or list i none)) (key (get_or list (i + 1) none)))
  unfolding is_last
  last_by_next h = rw (drop-cons list (i + 1) none h)

  pub last_at_end : length list ≤ i + 1 → is_last key (get_or list i none) (drop (i + 1) list) ≡ true
  unfolding is_last
  last_at_end h = rw (drop_of_length-le list {i = i + 1} h)
