-- Entries that are put on their rows keep their values, and their beats are the beats put on rows. Assumes nothing.
use Rattle.std.proofs.Common.{◌≡◌, List, map, length, sym, ap, ◌∙◌}
use mathlib.Core.List.{map-map}
use lib.Ieee.{Float}
use Rattle.order.specs.Entries.{entries, first, second}
use Rattle.order.proofs.Columns.{first-entries, second-entries}
use Rattle.rows.specs.RowKey.{beat_on_row, on_its_row}

module _ (beats values : List Float) (same : length beats ≡ length values) where
  pub each-beat : map first (map on_its_row (entries beats values)) ≡ map beat_on_row beats
  each-beat = map-map first on_its_row (entries beats values) ∙ sym (map-map beat_on_row first (entries beats values)) ∙ ap (map beat_on_row) (first-entries beats values same)

  pub each-value : map second (map on_its_row (entries beats values)) ≡ values
  each-value = map-map second on_its_row (entries beats values) ∙ second-entries beats values same
