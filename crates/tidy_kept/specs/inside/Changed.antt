-- What a change comes to: how many are kept then, and that it is what placing gives. Definitions only.
use Rattle.std.specs.Prelude.{ℕ, ◌+◌, ◌-◌, ◌≤◌, ◌<◌, ◌≡◌, Bool, true, not, List, length, get_or}
use Rattle.picks.specs.Pick.{pick}
use Rattle.order.specs.Order.{never_falls}
use Rattle.tidy_kept.specs.declared.Change.{Change}
use Rattle.tidy_kept.specs.Keeping.{row_of, placed}
use Rattle.tidy_kept.specs.Changing.{spliced}

-- how many a list of n has then
abbrev pub count_by : ℕ → ℕ → ℕ → Bool → ℕ
count_by n low high comes = n - (high - low) + pick comes 1 0

-- a change that gives what placing an entry gives, and says whether the list falls then
pub record Changed {B W : Type 0} (row : B → ℕ) (near : W → W → Bool) (e : B × W) (list : List (B × W)) (c : Change) : Type 0 where
  pub low : c.low ≤ c.high
  pub high : c.high ≤ length list
  pub moving : c.moves ≡ true → 0 < c.high
  pub places : placed row near e list ≡ spliced c.low c.high c.comes (e.0, pick c.moves (get_or list (c.high - 1) e).1 e.1) list
  pub falling : c.falls ≡ not (never_falls (row_of row near) (placed row near e list))
