-- The scrolls of a taken list pass the tests of what tidying is given. Assumes nothing.
use mathlib.Core.Path.{◌≡◌, ◌∙◌}
use mathlib.Core.List.{List, map}
use lib.ListN.{length-map}
use lib.Ieee.{Float}
use Rattle.rows.specs.Rows.{quantized}
use Rattle.limits.specs.declared.Kind.TheVariants.{Beat, Value}
use Rattle.limits.specs.Numbers.{range_of}
use Rattle.limits.specs.Refusals.{list_number}
use Rattle.limits.proofs.ListTaken.{list-taken, list-passes}
use Rattle.tidy_rows.specs.RowTidying.{rows_number}
use Rattle.assembly_rows.proofs.QuantizedTaken.{quantized_beats_taken}

module _ (beats values : List Float) (h : rows_number beats values ≡ 0) where
  pub scrolls-pass : list_number (range_of Beat) (range_of Value) (map quantized beats) values ≡ 0
  scrolls-pass =
      let is = list-taken h in
      list-passes (range_of Beat) (range_of Value) (map quantized beats) values (simp length-map is.few) (length-map beats quantized ∙ is.even) (quantized_beats_taken beats is.beats_in) is.values_in
