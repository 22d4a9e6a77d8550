-- The processing of raw tempos and stops in SSC. Definitions only.
use Rattle.std.specs.Prelude.{Bool, false, List, map, ◌≡◌, length, Float}
use Rattle.std.specs.Float.Ieee.{lt, le}
use Rattle.std.specs.Float.Ieee.Scale.{finite}
use Rattle.ieee.specs.Constants.{plus_zero}
use Rattle.picks.specs.Pick.{pick}
use Rattle.rows.specs.Rows.{quantized}
use Rattle.order.specs.Entries.{entries, first, second}
use Rattle.columns.specs.Kept.{kept}
use Rattle.columns.specs.Laying.{room_number}
use Rattle.tidy_tempos.specs.TempoTidying.{tidy_tempos}
use Rattle.process_raw.specs.declared.Processed.{Processed}
use Rattle.process_raw.specs.LentLists.{TwoColumns, two_columns}
use Rattle.process_raw.specs.RawLists.{raw_numbers_of, list_room}
use Rattle.process_raw.specs.ProcessedLaid.{ListLaidIn}

-- two finite numbers, the beat not below 0 and the value above it
unfoldable pub stays_ssc : Float × Float → Bool
stays_ssc e = pick (finite e.0) (pick (finite e.1) (pick (le plus_zero e.0) (lt plus_zero e.1) false) false) false

-- the beat on its row
abbrev pub quantized_entry : Float × Float → Float × Float
quantized_entry e = (quantized e.0, e.1)

-- the entries that stay, in the order given
abbrev pub stayed_ssc : List Float → List Float → List (Float × Float)
stayed_ssc beats values = kept stays_ssc quantized_entry (entries beats values)

-- stops are that; tempos are tidied besides
abbrev pub ssc_tempos : List Float → List Float → List (Float × Float)
ssc_tempos beats values = tidy_tempos (map first (stayed_ssc beats values)) (map second (stayed_ssc beats values))

-- The one outcome: the number by the tests of both lists, then 7 by the rooms of both results; under it the lists. SSC makes no warps and has no offset.
pub record SscLaid (raw : TwoColumns) (outcome : Processed) (old new : TwoColumns) : Type 0 where
  pub number :
      outcome.number
      ≡ room_number
      (room_number (raw_numbers_of raw) (length (stayed_ssc raw.stops.beats raw.stops.values)) (list_room old.stops))
      (length (ssc_tempos raw.tempos.beats raw.tempos.values)) (list_room old.tempos)
  pub tempos : ListLaidIn outcome.number (ssc_tempos raw.tempos.beats raw.tempos.values) outcome.tempos old.tempos new.tempos
  pub stops : ListLaidIn outcome.number (stayed_ssc raw.stops.beats raw.stops.values) outcome.stops old.stops new.stops
  pub warps : outcome.warps ≡ 0
  pub offset : outcome.offset ≡ plus_zero

-- the same by the columns themselves
abbrev pub SscProcessed : (tempo_beats tempo_values stop_beats stop_values : List Float) → Processed
    → (tempo_beats_old tempo_beats_new tempo_values_old tempo_values_new stop_beats_old stop_beats_new stop_values_old stop_values_new : List Float) → Type 0
SscProcessed tempo_beats tempo_values stop_beats stop_values outcome
    tempo_beats_old tempo_beats_new tempo_values_old tempo_values_new stop_beats_old stop_beats_new stop_values_old stop_values_new =
    SscLaid (two_columns tempo_beats tempo_values stop_beats stop_values) outcome
    (two_columns tempo_beats_old tempo_values_old stop_beats_old stop_values_old) (two_columns tempo_beats_new tempo_values_new stop_beats_new stop_values_new)
