-- The processing of raw tempos and stops in SM. Definitions only.
use Rattle.std.specs.Prelude.{List, Float}
use Rattle.process_raw.specs.declared.Processed.{Processed}
use Rattle.process_raw.specs.LentLists.{TwoColumns, two_columns, ThreeColumns, three_columns}
use Rattle.process_raw.specs.RawLists.{raw_numbers_of}
use Rattle.process_sm_lent.specs.Sm.{SmListsLaid}

-- the one outcome of the call: by the tests of both lists, then 7 where a list is longer than its room
abbrev pub SmLaid : TwoColumns → Processed → (old new : ThreeColumns) → Type 0
SmLaid raw outcome old new = SmListsLaid (raw_numbers_of raw) raw outcome old new

-- the same by the columns themselves
abbrev pub SmProcessed : (tempo_beats tempo_values stop_beats stop_values : List Float) → Processed
    → (tempo_beats_old tempo_beats_new tempo_values_old tempo_values_new stop_beats_old stop_beats_new stop_values_old stop_values_new : List Float)
    → (warp_beats_old warp_beats_new warp_lengths_old warp_lengths_new : List Float) → Type 0
SmProcessed tempo_beats tempo_values stop_beats stop_values outcome
    tempo_beats_old tempo_beats_new tempo_values_old tempo_values_new stop_beats_old stop_beats_new stop_values_old stop_values_new
    warp_beats_old warp_beats_new warp_lengths_old warp_lengths_new =
    SmLaid (two_columns tempo_beats tempo_values stop_beats stop_values) outcome
    (three_columns tempo_beats_old tempo_values_old stop_beats_old stop_values_old warp_beats_old warp_lengths_old)
    (three_columns tempo_beats_new tempo_values_new stop_beats_new stop_values_new warp_beats_new warp_lengths_new)
