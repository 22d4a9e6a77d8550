-- Work columns and results with room for the most that lists come to. Definitions only.
use Rattle.std.specs.Prelude.{◌≡◌, ℕ, ◌+◌, ◌≤◌, min, max, length}
use Rattle.process_raw.specs.LentLists.{TwoColumns, ThreeColumns}
use Rattle.process_raw.specs.RawLists.{raw_numbers_of, list_room}
use Rattle.process_sm_walk.specs.Columns.{Columns}

-- work columns with room for the most that the walk makes of lists that are taken
pub record WalkRooms (raw : TwoColumns) (work : Columns) : Type 0 where
  pub tempos : raw_numbers_of raw ≡ 0 → max (length raw.tempos.beats) 1 ≤ min (length work.tempo_beats) (length work.tempo_values)
  pub stops : raw_numbers_of raw ≡ 0 → length raw.stops.beats ≤ min (length work.stop_beats) (length work.stop_values)
  pub warps : raw_numbers_of raw ≡ 0 → length raw.tempos.beats + length raw.stops.beats ≤ min (length work.warp_beats) (length work.warp_lengths)

-- rooms that hold the most that so many tempos and stops come to
pub record RoomsHold (tempos stops tempo_room stop_room warp_room : ℕ) : Type 0 where
  pub tempos_fit : max tempos 1 ≤ tempo_room
  pub stops_fit : stops ≤ stop_room
  pub warps_fit : tempos + stops ≤ warp_room

-- and so for the rooms of the results
abbrev pub ResultRooms : (tempos stops : ℕ) → ThreeColumns → Type 0
ResultRooms tempos stops rooms = RoomsHold tempos stops (list_room rooms.tempos) (list_room rooms.stops) (list_room rooms.warps)
