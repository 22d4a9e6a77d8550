-- Raw tempos and raw stops, as both formats are given them: by what numbers they are refused. Definitions only.
use Rattle.std.specs.Prelude.{ℕ, min, List, Float, length}
use Rattle.ieee.specs.Constants.{plus_zero}
use Rattle.limits.specs.declared.Kind.TheVariants.{RawBeat, RawTempo}
use Rattle.limits.specs.Numbers.{range_of}
use Rattle.limits.specs.Refusals.{lower, list_number}
use Rattle.chart.specs.ChartColumns.{ListColumns}
use Rattle.process_raw.specs.declared.Processed.{Processed}
use Rattle.process_raw.specs.LentLists.{TwoColumns}

-- A list by itself. A stop's length has the limits of a tempo, and what is not finite passes here: its entry is dropped later.
abbrev pub raw_number : List Float → List Float → ℕ
raw_number beats values = list_number (range_of RawBeat) (range_of RawTempo) beats values

-- both lists, every entry of either before one is dropped
abbrev pub raw_numbers : List Float → List Float → List Float → List Float → ℕ
raw_numbers tempo_beats tempo_values stop_beats stop_values = lower (raw_number tempo_beats tempo_values) (raw_number stop_beats stop_values)

abbrev pub raw_numbers_of : TwoColumns → ℕ
raw_numbers_of raw = raw_numbers raw.tempos.beats raw.tempos.values raw.stops.beats raw.stops.values

-- the room of two columns
abbrev pub room_for : List Float → List Float → ℕ
room_for first second = min (length first) (length second)

abbrev pub list_room : ListColumns → ℕ
list_room list = room_for list.beats list.values

-- a refusal: nothing written, and no offset
abbrev pub processed_nothing : ℕ → Processed
processed_nothing number = record { number = number; tempos = 0; stops = 0; warps = 0; offset = plus_zero }
