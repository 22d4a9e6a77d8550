-- Assembly of speeds. Definitions only.
use Rattle.std.specs.Prelude.{ℕ, Bool, false, List, map, leb, eqb, length, Float}
use Rattle.limits.specs.Table.{most_entries}
use Rattle.picks.specs.Pick.{pick}
use Rattle.ieee.specs.Narrowing.{narrow}
use Rattle.rows.specs.Rows.{quantized}
use Rattle.limits.specs.Neighbours.{every_two, not_falling}
use Rattle.columns.specs.declared.Outcome.{Outcome}
use Rattle.columns.specs.Laying.{room_number}
use Rattle.chart.specs.ChartColumns.{SpeedColumns, speed_columns}
use Rattle.tidy_speeds_entries.specs.Speed.{SpeedEntry, speed_entries}
use Rattle.tidy_speeds_entries.specs.LaidSpeeds.{LaidSpeeds}
use Rattle.tidy_speeds.specs.SpeedTidying.{tidy_speeds, speeds_number}
use Rattle.assembly_scrolls.specs.AssembledScrolls.{rise_apart}

-- the f32 of a beat, of its ratio and of its delay, with the unit
abbrev pub narrowed_speed : SpeedEntry → SpeedEntry
narrowed_speed e = (narrow e.0, (narrow e.1.0, (narrow e.1.1.0, e.1.1.1)))

-- beats quantised
abbrev pub quantized_speeds : SpeedColumns → SpeedColumns
quantized_speeds raw = speed_columns (map quantized raw.beats) raw.ratios raw.delays raw.units

-- beats quantised, tidied, and all of it as f32
unfoldable pub assembled_speeds : SpeedColumns → List SpeedEntry
assembled_speeds raw = map narrowed_speed (tidy_speeds (map quantized raw.beats) raw.ratios raw.delays raw.units)

-- the tests of what tidying is given
abbrev pub assembled_speeds_number : SpeedColumns → ℕ
assembled_speeds_number raw = speeds_number (map quantized raw.beats) raw.ratios raw.delays raw.units

-- a result laid over the four rooms, as they were and as they are
abbrev pub SpeedsOver : (tests : ℕ) → List SpeedEntry → Outcome → (old new : SpeedColumns) → Type 0
SpeedsOver tests result outcome old new =
    LaidSpeeds tests result outcome old.beats new.beats old.ratios new.ratios old.delays new.delays old.units new.units

-- the one outcome of the call
abbrev pub SpeedsAssembled : (raw : SpeedColumns) → Outcome → (old new : SpeedColumns) → Type 0
SpeedsAssembled raw = SpeedsOver (assembled_speeds_number raw) (assembled_speeds raw)

-- what the call answers where the shortest room has a length
abbrev pub speeds_room_number : SpeedColumns → (room : ℕ) → ℕ
speeds_room_number raw room = room_number (assembled_speeds_number raw) (length (assembled_speeds raw)) room

-- the same of a list that is known to be taken: 0 at once where the room holds all that is given and no beat is above the next
unfoldable pub speeds_later : SpeedColumns → (room : ℕ) → ℕ
speeds_later raw room =
    pick (leb (length raw.beats) room) (pick (every_two not_falling raw.beats) 0 (speeds_room_number raw room)) (speeds_room_number raw room)

-- ---- a list that is not tested first

-- beats that are quantised as they are, ratios and delays as f32, and the units
abbrev pub each_speed : (quantised : SpeedColumns) → List SpeedEntry
each_speed quantised = speed_entries quantised.beats (map narrow quantised.ratios) (map narrow quantised.delays) quantised.units

unfoldable pub same_lengths : ℕ → ℕ → ℕ → ℕ → Bool
same_lengths beats ratios delays units = pick (eqb beats ratios) (pick (eqb beats delays) (eqb beats units) false) false

-- whether each is laid by itself: columns of one length, that of a list, quantised beats that rise, and ratios apart
unfoldable pub speeds_by_themselves : SpeedColumns → Bool
speeds_by_themselves raw =
    pick (same_lengths (length raw.beats) (length raw.ratios) (length raw.delays) (length raw.units))
    (pick (leb (length raw.beats) most_entries) (rise_apart (map quantized raw.beats) raw.ratios) false) false

-- the one outcome of the call that tests no number: any other list is assembled. Of a list that is taken both are the same
abbrev pub SpeedsUntested : (raw : SpeedColumns) → Outcome → (old new : SpeedColumns) → Type 0
SpeedsUntested raw =
    SpeedsOver (pick (speeds_by_themselves raw) 0 (assembled_speeds_number raw))
    (pick (speeds_by_themselves raw) (each_speed (quantized_speeds raw)) (assembled_speeds raw))
