-- Warps that are made do not count: given and made together are as often off the grid as the given ones. Assumes nothing.
use mathlib.Core.Path.{◌≡◌, sym, ◌∙◌}
use mathlib.Core.List.{List, ◌++◌, map, map-append}
use lib.Ieee.{Float}
use Rattle.rows.specs.Rows.{on_grid}
use Rattle.limits.proofs.NoRefusal.{lower-none}
use Rattle.limits.proofs.HowManyFail.{clear_behind}
use Rattle.order.specs.Entries.{entries, first}
use Rattle.columns_each.specs.OffGrid.{moved_of, moved_in, always}
use Rattle.columns_each.proofs.OffGridCounts.{all-counted}
use Rattle.chart.specs.declared.TimingFormat.{TimingFormat}
use Rattle.process_raw.specs.RawLists.{raw_numbers}
use Rattle.process_raw.specs.LentLists.{ThreeColumns}
use Rattle.process.specs.ByFormat.{processed_lists}
use Rattle.process.proofs.WarpsOnGrid.{made_on_grid}
use Rattle.assembly_warps.specs.MergedWarps.{warps_number, three_number, merged_lists}

module _ (format : TimingFormat) (raw : ThreeColumns) (taken : three_number raw ≡ 0) where
  abbrev made : List (Float × Float)
  made = (processed_lists format raw.tempos.beats raw.tempos.values raw.stops.beats raw.stops.values).warps

  abbrev given : List (Float × Float)
  given = entries raw.warps.beats raw.warps.values

  pub made_not_counted : moved_in (map first (merged_lists format raw).warps) ≡ moved_of always first (entries raw.warps.beats raw.warps.values)
  made_not_counted =
      let two = lower-none (raw_numbers raw.tempos.beats raw.tempos.values raw.stops.beats raw.stops.values) (warps_number raw.warps) taken in
      let grid = made_on_grid format raw.tempos.beats raw.tempos.values raw.stops.beats raw.stops.values two.0 in
      let apart : moved_in (map first (given ++ made)) ≡ moved_in (map first given ++ map first made) = rw map-append in
      apart ∙ clear_behind on_grid (map first given) (map first made) grid ∙ sym (all-counted first given)
