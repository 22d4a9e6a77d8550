-- The six lent columns of the walk's results, as one. Definitions only.
use Rattle.std.specs.Prelude.{ℕ, ◌+◌, max, List, Float}
use Rattle.process_raw.specs.LentLists.{LentThree}
use Rattle.process_sm_walk.specs.declared.Counts.{Counts}

pub record Columns : Type 0 where
  pub tempo_beats : List Float
  pub tempo_values : List Float
  pub stop_beats : List Float
  pub stop_values : List Float
  pub warp_beats : List Float
  pub warp_lengths : List Float

abbrev pub columns : (tempo_beats tempo_values stop_beats stop_values warp_beats warp_lengths : List Float) → Columns
columns tempo_beats tempo_values stop_beats stop_values warp_beats warp_lengths = record {
  tempo_beats = tempo_beats;
  tempo_values = tempo_values;
  stop_beats = stop_beats;
  stop_values = stop_values;
  warp_beats = warp_beats;
  warp_lengths = warp_lengths;
}

-- the columns of rooms that are lent to a call, as it begins and as it ends
abbrev pub columns_before : LentThree → Columns
columns_before rooms =
    columns rooms.tempos.beats.entry.now rooms.tempos.values.entry.now
    rooms.stops.beats.entry.now rooms.stops.values.entry.now
    rooms.warps.beats.entry.now rooms.warps.values.entry.now

abbrev pub columns_after : LentThree → Columns
columns_after rooms =
    columns rooms.tempos.beats.exit.now rooms.tempos.values.exit.now
    rooms.stops.beats.exit.now rooms.stops.values.exit.now
    rooms.warps.beats.exit.now rooms.warps.values.exit.now

-- the most that a chart of so many tempos and stops writes
abbrev pub most_written : ℕ → ℕ → Counts
most_written tempos stops = record { tempos = max tempos 1; stops = stops; warps = tempos + stops }
