-- How many of the beats are on rows up to one, and the search for it. Definitions only.
use Rattle.std.specs.Prelude.{ℕ, zero, suc, ◌+◌, ◌-◌, ◌/◌, ◌≤◌, ◌<◌, Bool, List, ltb, leb, length, get_or}
use Rattle.picks.specs.Pick.{pick}

-- `at` beats are on rows up to k, and the next one, if there is one, is not. `none` stands for what is past the end
pub record UpTo {B : Type 0} (row : B → ℕ) (none : B) (beats : List B) (k at : ℕ) : Type 0 where
  pub within : at ≤ length beats
  pub low : (i : ℕ) → i < at → row (get_or beats i none) ≤ k
  pub next : at < length beats → k < row (get_or beats at none)

-- where a search by halves from low to high ends: it goes up from a place that passes. It takes `steps` turns at the most
unfoldable pub halved : (ℕ → Bool) → ℕ → ℕ → ℕ → ℕ
halved passes zero low high = low
halved passes (suc steps) low high =
    pick (ltb low high)
    (pick (passes (low + (high - low) / 2)) (halved passes steps (low + (high - low) / 2 + 1) high) (halved passes steps low (low + (high - low) / 2)))
    low

-- the place that it finds in all beats, by whether they are on rows up to k
abbrev pub place_after : {B : Type 0} → (B → ℕ) → B → List B → ℕ → ℕ
place_after row none beats k = halved (λ (i : ℕ). leb (row (get_or beats i none)) k) (length beats) 0 (length beats)
