-- The speeds that are placed so far. Definitions only.
use Rattle.std.specs.Prelude.{ℕ, List, Float}
use Rattle.tidy_kept.specs.inside.Placing.{front_entries}
use Rattle.tidy_speeds_entries.specs.Speed.{SpeedEntry, speed_values}

-- the first n entries of four columns
abbrev pub listed_speeds : ℕ → List Float → List Float → List Float → List ℕ → List SpeedEntry
listed_speeds n beats ratios delays units = front_entries n beats (speed_values ratios delays units)
