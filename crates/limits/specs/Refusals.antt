-- The number that a call answers. Definitions only.
use Rattle.std.specs.Prelude.{ℕ, List, ltb, leb, eqb, length, Float}
use Rattle.limits.specs.Table.{too_long_number, uneven, bad_beat, bad_value, most_entries}
use Rattle.picks.specs.Pick.{pick}
use Rattle.limits.specs.declared.Range.{Range}
use Rattle.limits.specs.Numbers.{all_in}

-- the lower of two numbers, where 0 is no refusal
unfoldable pub lower : ℕ → ℕ → ℕ
lower one other = pick (eqb one 0) other (pick (eqb other 0) one (pick (leb one other) one other))

-- a column that is too long; else what is tested later
abbrev pub long_then : ℕ → ℕ → ℕ
long_then entries later = pick (ltb most_entries entries) too_long_number later

-- the two columns of a list by their lengths; else what is tested later
abbrev pub sizes_then : ℕ → ℕ → ℕ → ℕ
sizes_then beats values later = long_then beats (long_then values (pick (eqb beats values) later uneven))

-- by their lengths alone: 1, 2, else 0
unfoldable pub sizes_number : ℕ → ℕ → ℕ
sizes_number beats values = sizes_then beats values 0

-- a list of two columns by itself: too long, columns that differ in length, a beat, a value
unfoldable pub list_number : Range → Range → List Float → List Float → ℕ
list_number beat value beats values = sizes_then (length beats) (length values) (pick (all_in beat beats) (pick (all_in value values) 0 bad_value) bad_beat)
