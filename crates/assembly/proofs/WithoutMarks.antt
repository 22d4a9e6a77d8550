-- The warps of a chart with their marks: without them they are the warps that assembly writes, for all marks that are taken, and their marks are those that it writes.
-- Assumes nothing.
use Prim.Native.Nat.{ℕ}
use mathlib.Core.Path.{◌≡◌, sym, ap, ◌∙◌}
use mathlib.Core.List.{List, map}
use native.Mathlib.Omega.{arith}
use lib.ListN.{length, length-map}
use lib.Ieee.{Float}
use Rattle.limits.proofs.NoRefusal.{lower-none}
use Rattle.order.specs.Entries.{first, second}
use Rattle.chart.specs.declared.TimingFormat.{TimingFormat}
use Rattle.chart.specs.ChartColumns.{ChartColumns}
use Rattle.tidy_warps.specs.Marks.{Warp, without_mark, warp_mark, marks_number}
use Rattle.tidy_warps.proofs.MarkedTaken.{marks-taken}
use Rattle.assembly_marks.specs.AssembledMarks.{merged_marks, assembled_marked, assembled_marks}
use Rattle.assembly_marks.proofs.MergedMarks.{merged-length}
use Rattle.assembly_marks.proofs.CarriedMarks as carried
use Rattle.assembly_warps.specs.MergedWarps.{three_number}
use Rattle.assembly_tempos.specs.AssembledTempos.{assembled_warps, made_warps}
use Rattle.assembly_tempos.proofs.WorkColumns.{warps-merged}
use Rattle.assembly.specs.Assembly.{others_number, processed_together, processed_chart, seven_number, seven_with_marks}

module _ (format : TimingFormat) (raw : ChartColumns) (marks : List ℕ) (taken : seven_with_marks raw marks ≡ 0) where
  -- given and made, each with its mark
  abbrev warps : List (Float × Float)
  warps = (processed_chart format raw).warps

  abbrev all_marks : List ℕ
  all_marks = merged_marks marks (made_warps format (processed_together raw))

  abbrev marked_warps : List Warp
  marked_warps = assembled_marked (map first warps) (map second warps) all_marks

  even : length (map second warps) ≡ length all_marks
  even =
      let both = lower-none (seven_number raw) (marks_number (length raw.warps.beats) marks) taken in
      let three = (lower-none (three_number (processed_together raw)) (others_number raw.delays raw.speeds raw.scrolls raw.fakes) both.0).0 in
      omega (
        arith,
        length-map warps second,
        warps-merged format (processed_together raw) three,
        (marks-taken raw.warps.beats marks both.1).0,
        merged-length marks (made_warps format (processed_together raw)),
      )

  pub without_marks : map without_mark marked_warps ≡ assembled_warps (processed_chart format raw)
  without_marks = carried.without_marks (map first warps) (map second warps) all_marks even

  pub marks-carried : map warp_mark marked_warps ≡ assembled_marks (map first warps) all_marks
  marks-carried = carried.marks-carried (map first warps) (map second warps) all_marks even

  pub as_many_marks : length (assembled_marks (map first warps) all_marks) ≡ length (assembled_warps (processed_chart format raw))
  as_many_marks = carried.as_many_marks (map first warps) (map second warps) all_marks even
