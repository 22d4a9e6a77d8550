-- Entries placed one by one in columns that lie in a room. Definitions only.
use Rattle.std.specs.Prelude.{ℕ, ◌+◌, ◌≤◌, Bool, false, not, List, [], ◌≡◌, length, take}
use Rattle.order.specs.Order.{run, never_falls}
use Rattle.order.specs.Entries.{entries}
use Rattle.tidy_kept.specs.Keeping.{row_of, placed, falls_while}

module _ {B W : Type 0} where
  -- the first n entries of two columns
  abbrev pub front_entries : ℕ → List B → List W → List (B × W)
  front_entries n beats values = entries (take n beats) (take n values)

  module _ (row : B → ℕ) (near : W → W → Bool) where
    -- an entry placed among the first n of two columns: then they hold `count`, and say whether these fall
    pub record PlacedOne (e : B × W) (n : ℕ) (beats : List B) (values : List W) (count : ℕ) (falls : Bool) (beats_new : List B) (values_new : List W) : Type 0 where
      pub few : count ≤ n + 1
      pub list : front_entries count beats_new values_new ≡ placed row near e (front_entries n beats values)
      pub falling : falls ≡ not (never_falls (row_of row near) (placed row near e (front_entries n beats values)))

    -- every entry placed
    pub record PlacedAll (list : List (B × W)) (count : ℕ) (falls : Bool) (beats_new : List B) (values_new : List W) : Type 0 where
      pub falling : falls ≡ falls_while row near [] list
      pub few : count ≤ length list
      pub all : falls ≡ false → front_entries count beats_new values_new ≡ run (placed row near) [] list
