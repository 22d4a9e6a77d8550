-- What SM makes of raw tempos and stops. Definitions only.
use Rattle.std.specs.Prelude.{ℕ}
use Rattle.tidy_tempos.specs.TempoTidying.{tidied_tempos}
use Rattle.process_raw.specs.declared.Processed.{Processed}
use Rattle.process_raw.specs.LentLists.{TwoColumns, ThreeColumns}
use Rattle.process_raw.specs.ProcessedLaid.{ProcessedLaid}
use Rattle.process_sm_changes.specs.SmChanges.{sm_changes}
use Rattle.process_sm_walk.specs.Chart.{offset_of}
use Rattle.process_sm_walk_raw.specs.RawWalk.{sm_written_of}

-- the three lists and the offset of raw lists, under a number
abbrev pub SmListsLaid : ℕ → TwoColumns → Processed → (old new : ThreeColumns) → Type 0
SmListsLaid tests raw outcome old new =
    ProcessedLaid tests (tidied_tempos (sm_written_of raw).tempos) (sm_written_of raw).stops (sm_written_of raw).warps
    (offset_of (sm_changes raw.stops.beats raw.stops.values)) outcome old new
