-- Tempos and stops as one list of changes, by beat. Definitions only.
use Rattle.std.specs.Prelude.{List, [], ◌∷◌, map, drop, Float}
use Rattle.std.specs.Float.Ieee.{le}
use Rattle.picks.specs.Pick.{pick}
use Rattle.process_sm_machine.specs.declared.Entry.{Entry}
use Rattle.process_sm_machine.specs.declared.Change.{Change}
use Rattle.process_sm_machine.specs.declared.Change.TheVariants.{Tempo, Stop}
use Rattle.process_sm_walk.specs.declared.Places.{Places}

-- a beat and a value as the machine takes them, and as lists have them
abbrev pub entry_of : Float × Float → Entry
entry_of e = record { beat = e.0; value = e.1 }

abbrev pub pair_of : Entry → Float × Float
pair_of entry = (entry.beat, entry.value)

abbrev pub tempo_of : Float × Float → Change
tempo_of e = Tempo (entry_of e)

abbrev pub stop_of : Float × Float → Change
stop_of e = Stop (entry_of e)

-- one tempo among stops: before the first stop that isn't on an earlier beat, so before one on its own beat. What follows it is given
abbrev pub weave : Float × Float → (List (Float × Float) → List Change) → List (Float × Float) → List Change
weave tempo rest [] = tempo_of tempo ∷ rest []
weave tempo rest (stop ∷ stops) = pick (le tempo.0 stop.0) (tempo_of tempo ∷ rest (stop ∷ stops)) (stop_of stop ∷ weave tempo rest stops)

abbrev pub merged_changes : List (Float × Float) → List (Float × Float) → List Change
merged_changes [] stops = map stop_of stops
merged_changes (tempo ∷ tempos) stops = weave tempo (merged_changes tempos) stops

-- ---- the changes from a place in each list on

abbrev pub changes_left : List (Float × Float) → List (Float × Float) → Places → List Change
changes_left tempos stops places = merged_changes (drop places.tempo tempos) (drop places.stop stops)
