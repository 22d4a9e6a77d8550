-- Raw tempos and stops, made changes and walked. Definitions only.
use Rattle.std.specs.Prelude.{ℕ, List, eqb, length, Float}
use Rattle.limits.specs.Table.{no_room}
use Rattle.picks.specs.Pick.{pick}
use Rattle.process_raw.specs.LentLists.{TwoColumns}
use Rattle.process_raw.specs.RawLists.{raw_numbers}
use Rattle.process_sm_changes.specs.SmChanges.{sm_changes}
use Rattle.process_sm_walk.specs.Chart.{Output, processed}
use Rattle.process_sm_walk.specs.declared.Walked.{Walked}
use Rattle.process_sm_walk.specs.Columns.{Columns, most_written}
use Rattle.process_sm_walk.specs.Walking.{has_room, WalkLaid}

-- what the walk writes of both lists, as changes in order. Its stops and warps are in order by beat already, which is proved of the walk
abbrev pub sm_written : (tempo_beats tempo_values stop_beats stop_values : List Float) → Output
sm_written tempo_beats tempo_values stop_beats stop_values = processed (sm_changes tempo_beats tempo_values) (sm_changes stop_beats stop_values)

-- the number of both lists, then 7 where the most that their changes can write has no room
unfoldable pub walked_number : (tempo_beats tempo_values stop_beats stop_values : List Float) → Columns → ℕ
walked_number tempo_beats tempo_values stop_beats stop_values into =
    pick (eqb (raw_numbers tempo_beats tempo_values stop_beats stop_values) 0)
    (pick (has_room (most_written (length (sm_changes tempo_beats tempo_values)) (length (sm_changes stop_beats stop_values))) into) 0 no_room)
    (raw_numbers tempo_beats tempo_values stop_beats stop_values)

-- ---- the same of raw columns

abbrev pub sm_written_of : TwoColumns → Output
sm_written_of raw = sm_written raw.tempos.beats raw.tempos.values raw.stops.beats raw.stops.values

abbrev pub walked_number_of : TwoColumns → Columns → ℕ
walked_number_of raw into = walked_number raw.tempos.beats raw.tempos.values raw.stops.beats raw.stops.values into

-- the one outcome: what the walk lays of the changes of both lists
abbrev pub RawWalked : TwoColumns → Walked → (old new : Columns) → Type 0
RawWalked raw outcome old new =
    WalkLaid (sm_changes raw.tempos.beats raw.tempos.values) (sm_changes raw.stops.beats raw.stops.values) (walked_number_of raw old) outcome old new
