-- The processing of raw tempos and stops by the format of the chart. Definitions only.
use Rattle.std.specs.Prelude.{ℕ, Bool, false, List, [], ◌∷◌, eqb, length, Float}
use Rattle.ieee.specs.Constants.{plus_zero, sixty}
use Rattle.picks.specs.Pick.{pick}
use Rattle.process_raw.specs.declared.Processed.{Processed}
use Rattle.process_raw.specs.LentLists.{TwoColumns, ThreeColumns, three_columns}
use Rattle.process_raw.specs.RawLists.{raw_numbers_of}
use Rattle.process_ssc.specs.Ssc as ssc
use Rattle.process_sm_changes.specs.SmChanges.{sm_changes}
use Rattle.process_sm_walk.specs.Chart.{offset_of}
use Rattle.process_sm_walk_raw.specs.RawWalk.{sm_written}
use Rattle.tidy_tempos.specs.TempoTidying.{tidied_tempos}
use Rattle.process_raw.specs.ProcessedLaid.{ProcessedLaid}
use Rattle.chart.specs.declared.TimingFormat.{TimingFormat}
use Rattle.chart.specs.declared.TimingFormat.TheVariants.{Sm, Ssc}

-- ---- tempos that are not there: one of 60 at beat 0

abbrev pub none_given : List Float → List Float → Bool
none_given beats values = pick (eqb (length beats) 0) (eqb (length values) 0) false

unfoldable pub tempo_beats_of : List Float → List Float → List Float
tempo_beats_of beats values = pick (none_given beats values) (plus_zero ∷ []) beats

unfoldable pub tempo_values_of : List Float → List Float → List Float
tempo_values_of beats values = pick (none_given beats values) (sixty ∷ []) values

-- ---- what processing makes of both lists

pub record ThreeLists : Type 0 where
  pub tempos : List (Float × Float)
  pub stops : List (Float × Float)
  pub warps : List (Float × Float)
  pub offset : Float

-- SSC makes no warps, and leaves beat 0 where it is
abbrev pub lists_by : TimingFormat → (tempo_beats tempo_values stop_beats stop_values : List Float) → ThreeLists
lists_by Sm tempo_beats tempo_values stop_beats stop_values = record {
  tempos = tidied_tempos (sm_written tempo_beats tempo_values stop_beats stop_values).tempos;
  stops = (sm_written tempo_beats tempo_values stop_beats stop_values).stops;
  warps = (sm_written tempo_beats tempo_values stop_beats stop_values).warps;
  offset = offset_of (sm_changes stop_beats stop_values);
}
lists_by Ssc tempo_beats tempo_values stop_beats stop_values = record {
  tempos = ssc.ssc_tempos tempo_beats tempo_values;
  stops = ssc.stayed_ssc stop_beats stop_values;
  warps = [];
  offset = plus_zero;
}

unfoldable pub processed_lists : TimingFormat → (tempo_beats tempo_values stop_beats stop_values : List Float) → ThreeLists
processed_lists format tempo_beats tempo_values stop_beats stop_values =
    lists_by format (tempo_beats_of tempo_beats tempo_values) (tempo_values_of tempo_beats tempo_values) stop_beats stop_values

-- ---- the one outcome of the call

-- lists of processing under one number: that of the tests, then 7 where one is longer than its room
abbrev pub ThreeListsLaid : ℕ → ThreeLists → Processed → (old new : ThreeColumns) → Type 0
ThreeListsLaid tests lists outcome old new = ProcessedLaid tests lists.tempos lists.stops lists.warps lists.offset outcome old new

abbrev pub lists_by_of : TimingFormat → TwoColumns → ThreeLists
lists_by_of format raw = lists_by format raw.tempos.beats raw.tempos.values raw.stops.beats raw.stops.values

abbrev pub processed_lists_of : TimingFormat → TwoColumns → ThreeLists
processed_lists_of format raw = processed_lists format raw.tempos.beats raw.tempos.values raw.stops.beats raw.stops.values

abbrev pub ProcessedBy : TimingFormat → TwoColumns → Processed → (old new : ThreeColumns) → Type 0
ProcessedBy format raw outcome old new = ThreeListsLaid (raw_numbers_of raw) (processed_lists_of format raw) outcome old new

-- lists laid, by the columns themselves
abbrev pub ListsLaid : ℕ → ThreeLists → Processed
    → (tempo_beats_old tempo_beats_new tempo_values_old tempo_values_new stop_beats_old stop_beats_new stop_values_old stop_values_new : List Float)
    → (warp_beats_old warp_beats_new warp_lengths_old warp_lengths_new : List Float) → Type 0
ListsLaid tests lists outcome
    tempo_beats_old tempo_beats_new tempo_values_old tempo_values_new stop_beats_old stop_beats_new stop_values_old stop_values_new
    warp_beats_old warp_beats_new warp_lengths_old warp_lengths_new =
    ThreeListsLaid tests lists outcome
    (three_columns tempo_beats_old tempo_values_old stop_beats_old stop_values_old warp_beats_old warp_lengths_old)
    (three_columns tempo_beats_new tempo_values_new stop_beats_new stop_values_new warp_beats_new warp_lengths_new)
