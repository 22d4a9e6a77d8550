-- SM processing of tempos and stops that are narrowed to f32 and in order: the opening, the walk over the changes, the end. Definitions only.
use Rattle.process_sm_machine.specs.declared.Entry.{Entry}
use Rattle.std.specs.Prelude.{◌≡◌, ℕ, suc, max, true, List, [], ◌∷◌, ◌++◌, length, Float, Option, Some, None}
use Rattle.std.specs.Float.{binary32}
use Rattle.std.specs.Float.Ieee.{sub, eq, lt, le}
use Rattle.ieee.specs.Constants.{plus_zero32, sixty32}
use Rattle.picks.specs.Pick.{pick}
use Rattle.order.specs.Entries.{entries}
use Rattle.process_sm_machine.specs.Machine.{open_chart, time_passed, met, finish}
use Rattle.process_sm_machine.specs.declared.Change.{Change}
use Rattle.process_sm_machine.specs.declared.State.{State}
use Rattle.process_sm_machine.specs.declared.Moved.{Moved}
use Rattle.process_sm_walk.specs.declared.Places.{Places}
use Rattle.process_sm_walk.specs.Changes.{pair_of, changes_left}

-- ---- what is written, in order

pub record Output : Type 0 where
  pub tempos : List (Float × Float)
  pub stops : List (Float × Float)
  pub warps : List (Float × Float)

abbrev pub written_list : Option Entry → List (Float × Float)
written_list None = []
written_list (Some entry) = pair_of entry ∷ []

abbrev pub written_by : Moved → Output
written_by moved = record { tempos = written_list moved.tempo; stops = written_list moved.stop; warps = written_list moved.warp }

-- one after the other
abbrev pub joined : Output → Output → Output
joined first second = record {
  tempos = first.tempos ++ second.tempos;
  stops = first.stops ++ second.stops;
  warps = first.warps ++ second.warps;
}

-- ---- the walk: a change a step, and the end a step of its own

-- what one change writes: by the time up to it, then by itself
abbrev pub written_at : State → Change → Output
written_at state change = joined (written_by (time_passed state change)) (written_by (met state change))

-- what is written from a state on
unfoldable pub walk_changes : List Change → State → Output
walk_changes [] state = written_by (finish state)
walk_changes (change ∷ changes) state = joined (written_at state change) (walk_changes changes (met state change).state)

-- ---- the opening

-- stops before beat 0 are no changes: the offset of beat 0 is less by each
unfoldable pub taken_off : Float → List (Float × Float) → Float
taken_off offset [] = offset
taken_off offset (stop ∷ stops) = pick (lt stop.0 plus_zero32) (taken_off (sub binary32 offset stop.1) stops) offset

unfoldable pub stops_before : List (Float × Float) → ℕ
stops_before [] = 0
stops_before (stop ∷ stops) = pick (lt stop.0 plus_zero32) (suc (stops_before stops)) 0

-- the tempo at the opening: of those up to beat 0 the last; where there is none the first of all; where there is none at all 60
abbrev pub first_tempo : List (Float × Float) → Float
first_tempo [] = sixty32
first_tempo (tempo ∷ tempos) = tempo.1

unfoldable pub last_tempo : Float → List (Float × Float) → Float
last_tempo other [] = other
last_tempo other (tempo ∷ tempos) = pick (le tempo.0 plus_zero32) (last_tempo tempo.1 tempos) other

unfoldable pub tempos_by0 : List (Float × Float) → ℕ
tempos_by0 [] = 0
tempos_by0 (tempo ∷ tempos) = pick (le tempo.0 plus_zero32) (suc (tempos_by0 tempos)) 0

abbrev pub opening_tempo : List (Float × Float) → Float
opening_tempo tempos = last_tempo (first_tempo tempos) tempos

-- the places of the first changes: the opening has used up a tempo at least
abbrev pub opening_places : List (Float × Float) → List (Float × Float) → Places
opening_places tempos stops = record { tempo = max (tempos_by0 tempos) 1; stop = stops_before stops }

-- ---- the whole

abbrev pub processed : List (Float × Float) → List (Float × Float) → Output
processed tempos stops =
    joined (written_by (open_chart (opening_tempo tempos)))
    (walk_changes (changes_left tempos stops (opening_places tempos stops)) (open_chart (opening_tempo tempos)).state)

abbrev pub offset_of : List (Float × Float) → Float
offset_of stops = taken_off plus_zero32 stops

-- no tempo is a NaN
abbrev pub TemposNumbers : List (Float × Float) → Type 0
TemposNumbers [] = Unit {0}
TemposNumbers (entry ∷ list) = (eq entry.1 entry.1 ≡ true) × TemposNumbers list

-- a chart's columns: those of each list of one length, and no tempo a NaN
pub record Chart (tempo_beats tempo_values stop_beats stop_values : List Float) : Type 0 where
  pub tempos : length tempo_beats ≡ length tempo_values
  pub stops : length stop_beats ≡ length stop_values
  pub numbers : TemposNumbers (entries tempo_beats tempo_values)
