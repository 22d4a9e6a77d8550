-- Where a number stands in a column of numbers: a search by quarters. Definitions only.
use Rattle.std.specs.Prelude.{◌≡◌, ℕ, zero, suc, ◌+◌, ◌-◌, ◌*◌, ◌/◌, ◌<◌, ◌≤◌, Bool, true, false, List, length, nat_lt, slice_index_or, Float}
use Rattle.std.specs.Float.{nan}
use Rattle.std.specs.Float.Ieee.{le}
use Rattle.picks.specs.Pick.{pick}

-- how many of the places below n pass
unfoldable pub how_many : (ℕ → Bool) → ℕ → ℕ
how_many passes zero = 0
how_many passes (suc n) = how_many passes n + pick (passes n) 1 0

-- Where a search ends that has found `base` entries to pass, with `size` to look at: more than sixteen are cut in quarters, the last of which has what is over,
-- and the search goes on behind as many of the first three as have a last entry that passes; of sixteen or less it is counted how many pass.
-- It takes `steps` turns at the most.
unfoldable pub quartered : (ℕ → Bool) → (steps base size : ℕ) → ℕ
quartered passes zero base size = base + how_many (λ (i : ℕ). passes (base + i)) size
quartered passes (suc steps) base size =
    pick (nat_lt 16 size)
    (quartered passes steps (base + size / 4 * how_many (λ (i : ℕ). passes (base + size / 4 * (i + 1) - 1)) 3) (size - size / 4 * 3))
    (base + how_many (λ (i : ℕ). passes (base + i)) size)

-- where a number stands: in a column that never falls, after the entries that are not above it
unfoldable pub place_of : Float → List Float → ℕ
place_of at column = quartered (λ (i : ℕ). le (slice_index_or column i nan) at) (length column) 0 (length column)

-- the entries before a place are not above a number, and those from it on are
pub record SplitBy (at : Float) (column : List Float) (place : ℕ) : Type 0 where
  pub within : place ≤ length column
  pub before : (i : ℕ) → i < place → le (slice_index_or column i nan) at ≡ true
  pub after : (i : ℕ) → place ≤ i → i < length column → le (slice_index_or column i nan) at ≡ false
