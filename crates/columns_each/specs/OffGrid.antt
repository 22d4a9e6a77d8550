-- How many beats were off the grid. Definitions only.
use Rattle.std.specs.Prelude.{ℕ, ◌%◌, ◌^◌, Bool, true, List, map, ◌==◌, Float}
use Rattle.picks.specs.Pick.{pick}
use Rattle.rows.specs.Rows.{on_grid}
use Rattle.limits.specs.Numbers.{misses}
use Rattle.columns.specs.Kept.{kept}

-- OF A RAW LIST: of the entries that stay, those whose beat, as it was given, is off the grid
unfoldable pub moved_of : {E : Type 0} → (stays : E → Bool) (beat_of : E → Float) → List E → ℕ
moved_of {E} stays beat_of list = misses on_grid (map beat_of (kept stays (λ (e : E). e) list))

-- of a list that loses none every entry stays
abbrev pub always : {E : Type 0} → E → Bool
always e = true

-- of a column of beats that all stay
abbrev pub moved_in : List Float → ℕ
moved_in beats = misses on_grid beats

-- what a call hands up: none after a refusal
abbrev pub moved_under : (number moved : ℕ) → ℕ
moved_under number moved = pick (number == 0) moved 0

-- a u32 counts round at 2 ^ 32, which no list that is taken comes near
abbrev pub round_count : ℕ → ℕ
round_count n = n % 2 ^ 32
