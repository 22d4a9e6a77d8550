-- What one change can do to a warp that is open. Definitions only.
--
-- It goes on, from the same start and with the same tempo before it: by the time up to the change it owes what is owed at the change's beat, a tempo leaves that as it is
-- and a stop is added to it, and nothing is written. Or time ended it: the tempo fits, and more than nothing is owed at the change's beat.
-- Or the change is a stop above 0 that brought what is owed above 0. There is no fourth case.
use Rattle.std.specs.Prelude.{true, ◌&&◌, ◌≡◌, Float}
use Rattle.std.specs.Float.{binary32}
use Rattle.std.specs.Float.Ieee.{add, lt}
use Rattle.ieee.specs.Constants.{plus_zero32}
use Rattle.process_sm_machine.specs.declared.Entry.{Entry}
use Rattle.process_sm_machine.specs.declared.Change.{Change}
use Rattle.process_sm_machine.specs.declared.Change.TheVariants.{Tempo, Stop}
use Rattle.process_sm_machine.specs.declared.Opened.{Opened}
use Rattle.process_sm_machine.specs.declared.Warp.{Warp}
use Rattle.process_sm_machine.specs.declared.Warp.TheVariants.{Open}
use Rattle.process_sm_machine.specs.declared.State.{State}
use Rattle.process_sm_machine.specs.declared.Moved.{Moved}
use Rattle.process_sm_machine.specs.Machine.{fits, still, owed_at, beat_at}

-- the same warp, with this much owed
abbrev pub owing : Opened → Float → Warp
owing warp owed = Open (record { start = warp.start; former = warp.former; owed = owed })

-- what is owed at the beat of a change, and once it is met
abbrev pub owed_by : State → Opened → Change → Float
owed_by state warp change = owed_at state.tempo state.beat warp.owed (beat_at change)

abbrev pub owed_after : Float → Change → Float
owed_after owed (Tempo entry) = owed
owed_after owed (Stop entry) = add binary32 owed entry.value

-- the tempo in force then
abbrev pub tempo_from : Float → Change → Float
tempo_from tempo (Tempo entry) = entry.value
tempo_from tempo (Stop entry) = tempo

-- `passing` is what the time up to the change did, and `meeting` what the change did then
pub data Fate (state : State) (warp : Opened) (change : Change) (passing meeting : Moved) : Type 0 where
  goes_on_from : passing ≡ still (record { tempo = state.tempo; beat = beat_at change; warp = owing warp (owed_by state warp change) })
      → meeting ≡ still (record { tempo = tempo_from state.tempo change; beat = beat_at change; warp = owing warp (owed_after (owed_by state warp change) change) })
      → Fate state warp change passing meeting
  ended_by_time : fits state.tempo && lt plus_zero32 (owed_by state warp change) ≡ true → Fate state warp change passing meeting
  ended_by_stop : (entry : Entry) → change ≡ Stop entry → lt plus_zero32 entry.value && lt plus_zero32 (add binary32 (owed_by state warp change) entry.value) ≡ true
      → Fate state warp change passing meeting
