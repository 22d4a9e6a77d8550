-- How many raw tempos or stops of a chart were off the grid. Definitions only.
use Rattle.std.specs.Prelude.{ℕ, Bool, List, Float}
use Rattle.order.specs.Entries.{entries, first}
use Rattle.columns_each.specs.OffGrid.{moved_of}
use Rattle.chart.specs.declared.TimingFormat.{TimingFormat}
use Rattle.chart.specs.declared.TimingFormat.TheVariants.{Sm, Ssc}
use Rattle.process_ssc.specs.Ssc.{stays_ssc}
use Rattle.process_sm_changes.specs.SmChanges.{stays_sm}

-- whether a format keeps an entry
abbrev pub stays_in : TimingFormat → Float × Float → Bool
stays_in Sm e = stays_sm e
stays_in Ssc e = stays_ssc e

-- of the entries that it keeps, those off the grid: later ones for a row or a beat, stops before 0 and opening tempos too
abbrev pub moved_raw : TimingFormat → (beats values : List Float) → ℕ
moved_raw format beats values = moved_of (stays_in format) first (entries beats values)
