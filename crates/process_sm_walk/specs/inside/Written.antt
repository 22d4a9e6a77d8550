-- What is written so far: lists in columns from a place on, and counts. Definitions only.
use Rattle.std.specs.Prelude.{ℕ, ◌+◌, List, [], ◌∷◌, map, length, slice_set, Float}
use Rattle.order.specs.Entries.{first, second}
use Rattle.process_sm_walk.specs.Chart.{Output}
use Rattle.process_sm_walk.specs.Columns.{Columns}
use Rattle.process_sm_walk.specs.declared.Counts.{Counts}

-- a list written into a column, from a place on
unfoldable pub laid_from : ℕ → List Float → List Float → List Float
laid_from at [] column = column
laid_from at (x ∷ xs) column = laid_from (at + 1) xs (slice_set column at x)

-- each list from its count on
abbrev pub written_into : Counts → Output → Columns → Columns
written_into counts out into = record {
  tempo_beats = laid_from counts.tempos (map first out.tempos) into.tempo_beats;
  tempo_values = laid_from counts.tempos (map second out.tempos) into.tempo_values;
  stop_beats = laid_from counts.stops (map first out.stops) into.stop_beats;
  stop_values = laid_from counts.stops (map second out.stops) into.stop_values;
  warp_beats = laid_from counts.warps (map first out.warps) into.warp_beats;
  warp_lengths = laid_from counts.warps (map second out.warps) into.warp_lengths;
}

abbrev pub counted : Counts → Output → Counts
counted counts out = record {
  tempos = counts.tempos + length out.tempos;
  stops = counts.stops + length out.stops;
  warps = counts.warps + length out.warps;
}

abbrev pub none_counted : Counts
none_counted = record { tempos = 0; stops = 0; warps = 0 }
