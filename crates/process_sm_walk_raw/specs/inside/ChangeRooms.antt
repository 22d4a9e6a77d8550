-- Room for changes. Definitions only.
use Rattle.std.specs.Prelude.{◌≤◌, ◌≡◌, length}
use Rattle.process_raw.specs.LentLists.{TwoColumns}
use Rattle.process_raw.specs.RawLists.{raw_number, list_room}

-- room for the changes of each list that is taken
pub record ChangeRooms (raw rooms : TwoColumns) : Type 0 where
  pub tempo_changes : raw_number raw.tempos.beats raw.tempos.values ≡ 0 → length raw.tempos.beats ≤ list_room rooms.tempos
  pub stop_changes : raw_number raw.stops.beats raw.stops.values ≡ 0 → length raw.stops.beats ≤ list_room rooms.stops
