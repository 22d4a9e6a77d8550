-- The one outcome of the walk over lent columns. Definitions only.
use Rattle.std.specs.Prelude.{◌≡◌, ℕ, min, Bool, false, List, length, ◌==◌, nat_le, Float}
use Rattle.std.specs.Float.Ieee.{eq}
use Rattle.limits.specs.Table.{uneven, bad_value, no_room}
use Rattle.ieee.specs.Constants.{plus_zero32}
use Rattle.picks.specs.Pick.{pick}
use Rattle.limits.specs.Numbers.{every}
use Rattle.order.specs.Entries.{first, second}
use Rattle.columns.specs.Laying.{given, column_laid}
use Rattle.process_sm_walk.specs.declared.Counts.{Counts}
use Rattle.process_sm_walk.specs.declared.Walked.{Walked}
use Rattle.process_sm_walk.specs.Chart.{processed, offset_of}
use Rattle.process_sm_walk.specs.Columns.{Columns, most_written}

-- a NaN differs from itself
abbrev pub is_number : Float → Bool
is_number x = eq x x

-- room for so many of each list, by the room of each
abbrev pub room_for_counts : Counts → (tempo_room stop_room warp_room : ℕ) → Bool
room_for_counts counts tempo_room stop_room warp_room =
    pick (nat_le counts.tempos tempo_room) (pick (nat_le counts.stops stop_room) (nat_le counts.warps warp_room) false) false

-- the columns of a list have one room, the shorter
unfoldable pub has_room : Counts → Columns → Bool
has_room counts into =
    room_for_counts counts
    (min (length into.tempo_beats) (length into.tempo_values))
    (min (length into.stop_beats) (length into.stop_values))
    (min (length into.warp_beats) (length into.warp_lengths))

-- 2 for columns that differ in length, 4 for a tempo that is a NaN
unfoldable pub chart_number : (tempo_beats tempo_values stop_beats stop_values : List Float) → ℕ
chart_number tempo_beats tempo_values stop_beats stop_values =
    pick (length tempo_beats == length tempo_values)
    (pick (length stop_beats == length stop_values)
    (pick (every is_number tempo_values) 0 bad_value)
    uneven)
    uneven

-- then 7 where the most that so many tempos and stops can write has no room
unfoldable pub walk_number : (tempo_beats tempo_values stop_beats stop_values : List Float) → Columns → ℕ
walk_number tempo_beats tempo_values stop_beats stop_values into =
    pick (chart_number tempo_beats tempo_values stop_beats stop_values == 0)
    (pick (has_room (most_written (length tempo_beats) (length stop_beats)) into) 0 no_room)
    (chart_number tempo_beats tempo_values stop_beats stop_values)

-- Number, counts, offset, and each of the six rooms to its last place. After a refusal all counts are 0, the offset is 0 and the rooms are as they were.
pub record WalkLaid (given_tempos given_stops : List (Float × Float)) (refusal : ℕ) (outcome : Walked) (old new : Columns) : Type 0 where
  pub number : outcome.number ≡ refusal
  pub tempos : outcome.tempos ≡ length (given refusal (processed given_tempos given_stops).tempos)
  pub stops : outcome.stops ≡ length (given refusal (processed given_tempos given_stops).stops)
  pub warps : outcome.warps ≡ length (given refusal (processed given_tempos given_stops).warps)
  pub offset : outcome.offset ≡ pick (refusal == 0) (offset_of given_stops) plus_zero32
  pub tempo_beats : new.tempo_beats ≡ column_laid first refusal (processed given_tempos given_stops).tempos old.tempo_beats
  pub tempo_values : new.tempo_values ≡ column_laid second refusal (processed given_tempos given_stops).tempos old.tempo_values
  pub stop_beats : new.stop_beats ≡ column_laid first refusal (processed given_tempos given_stops).stops old.stop_beats
  pub stop_values : new.stop_values ≡ column_laid second refusal (processed given_tempos given_stops).stops old.stop_values
  pub warp_beats : new.warp_beats ≡ column_laid first refusal (processed given_tempos given_stops).warps old.warp_beats
  pub warp_lengths : new.warp_lengths ≡ column_laid second refusal (processed given_tempos given_stops).warps old.warp_lengths
