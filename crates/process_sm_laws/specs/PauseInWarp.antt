-- What once went wrong, and what holds instead. Definitions only.
--
-- In a patched copy of an SM engine a warp closed early when a pause fell inside it. Notes that nobody could reach stayed on the list to be judged, and a league final was scored wrong.
--
-- What holds: a stop that is met in an open warp and leaves the owed time at or below 0, whatever its size, ends no warp and writes nothing.
-- And so on the whole walk: what was written before such a stop stays what it is, the stop adds nothing, and the changes after it are
-- walked in the same warp, to whose owed time the stop is added.
use Rattle.std.specs.Prelude.{false, ◌&&◌, List, [], ◌∷◌, ◌++◌, ◌≡◌, Float}
use Rattle.std.specs.Float.{binary32}
use Rattle.std.specs.Float.Ieee.{add, lt}
use Rattle.ieee.specs.Constants.{plus_zero32}
use Rattle.process_sm_machine.specs.declared.Entry.{Entry}
use Rattle.process_sm_machine.specs.declared.Change.{Change}
use Rattle.process_sm_machine.specs.declared.Change.TheVariants.{Stop}
use Rattle.process_sm_machine.specs.declared.Opened.{Opened}
use Rattle.process_sm_machine.specs.declared.Warp.TheVariants.{Open}
use Rattle.process_sm_machine.specs.declared.State.{State}
use Rattle.process_sm_machine.specs.Machine.{fits, still, meet_stop, met}
use Rattle.process_sm_machine.specs.Fate.{owing, owed_by}
use Rattle.process_sm_walk.specs.Chart.{Output, joined, written_at, walk_changes}

-- ---- a walk up to a change: what it has written, and the state it has come to

abbrev pub nothing_written : Output
nothing_written = record { tempos = []; stops = []; warps = [] }

unfoldable pub written_so_far : List Change → State → Output
written_so_far [] state = nothing_written
written_so_far (change ∷ changes) state = joined (written_at state change) (written_so_far changes (met state change).state)

unfoldable pub come_to : List Change → State → State
come_to [] state = state
come_to (change ∷ changes) state = come_to changes (met state change).state

-- ---- the promise

pub record PauseKeepsWarp : Type 0 where
  -- of the machine, at the beat reached
  pub machine : (state : State) (warp : Opened) (pause : Float) → state.warp ≡ Open warp → lt plus_zero32 (add binary32 warp.owed pause) ≡ false
      → meet_stop state pause ≡ still (record { tempo = state.tempo; beat = state.beat; warp = owing warp (add binary32 warp.owed pause) })
  -- of the walk: a stop among changes, in a warp that time has not ended by its beat
  pub on_the_walk : (before after : List Change) (start : State) (warp : Opened) (stop : Entry) → (come_to before start).warp ≡ Open warp
      → fits (come_to before start).tempo && lt plus_zero32 (owed_by (come_to before start) warp (Stop stop)) ≡ false
      → lt plus_zero32 (add binary32 (owed_by (come_to before start) warp (Stop stop)) stop.value) ≡ false
      → walk_changes (before ++ Stop stop ∷ after) start
      ≡ joined (written_so_far before start)
      (walk_changes after (record { tempo = (come_to before start).tempo; beat = stop.beat; warp = owing warp (add binary32 (owed_by (come_to before start) warp (Stop stop)) stop.value) }))
