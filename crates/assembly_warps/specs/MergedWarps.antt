-- Tempos and stops processed, with the warps that they make behind the warps that are given. Definitions only.
use Rattle.std.specs.Prelude.{ℕ, ◌++◌}
use Rattle.limits.specs.declared.Kind.TheVariants.{Beat, Value}
use Rattle.limits.specs.Numbers.{range_of}
use Rattle.limits.specs.Refusals.{lower, list_number}
use Rattle.order.specs.Entries.{entries}
use Rattle.process_raw.specs.declared.Processed.{Processed}
use Rattle.process_raw.specs.RawLists.{raw_numbers}
use Rattle.chart.specs.declared.TimingFormat.{TimingFormat}
use Rattle.chart.specs.ChartColumns.{ListColumns}
use Rattle.process.specs.ByFormat.{ThreeLists, processed_lists, ListsLaid}
use Rattle.process_raw.specs.LentLists.{ThreeColumns}

-- given warps by themselves: too many, columns that differ in length, a beat, a length
abbrev pub warps_number : ListColumns → ℕ
warps_number warps = list_number (range_of Beat) (range_of Value) warps.beats warps.values

-- the lowest of the three lists
abbrev pub three_number : ThreeColumns → ℕ
three_number raw = lower (raw_numbers raw.tempos.beats raw.tempos.values raw.stops.beats raw.stops.values) (warps_number raw.warps)

-- warps that are given come before those that are made
abbrev pub behind_given : (warps : ListColumns) → ThreeLists → ThreeLists
behind_given warps lists = record {
  tempos = lists.tempos;
  stops = lists.stops;
  warps = entries warps.beats warps.values ++ lists.warps;
  offset = lists.offset;
}

abbrev pub merged_lists : TimingFormat → ThreeColumns → ThreeLists
merged_lists format raw =
    behind_given raw.warps (processed_lists format raw.tempos.beats raw.tempos.values raw.stops.beats raw.stops.values)

-- lists of processing, laid over the three rooms as they were and as they are
abbrev pub ListsOver : (tests : ℕ) → ThreeLists → Processed → (old new : ThreeColumns) → Type 0
ListsOver tests lists outcome old new =
    ListsLaid tests lists outcome
    old.tempos.beats new.tempos.beats old.tempos.values new.tempos.values
    old.stops.beats new.stops.beats old.stops.values new.stops.values
    old.warps.beats new.warps.beats old.warps.values new.warps.values

-- the one outcome of the call
abbrev pub MergedBy : TimingFormat → (raw : ThreeColumns) → Processed → (old new : ThreeColumns) → Type 0
MergedBy format raw = ListsOver (three_number raw) (merged_lists format raw)
