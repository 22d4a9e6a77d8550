-- Assembled beats and lengths with marks carried are those without, for all marks; and the marks are those of the assembled warps. Assumes nothing.
use Prim.Native.Nat.{ℕ}
use mathlib.Core.Path.{◌≡◌, sym, ap, ◌∙◌}
use mathlib.Core.List.{List, map, map-map}
use lib.ListN.{length, length-map}
use lib.Ieee.{Float}
use Rattle.rows.specs.Rows.{quantized}
use Rattle.assembly_rows.specs.declared.Meaning.TheVariants.{Lengths}
use Rattle.assembly_rows.specs.AssembledRows.{narrowed_entry, change_by, assembled_rows}
use Rattle.tidy_warps.specs.Marks.{Warp, without_mark, warp_mark}
use Rattle.tidy_warps.specs.WarpTidying.{tidy_warps}
use Rattle.tidy_warps.proofs.WithoutMarks as tidied
use Rattle.assembly_marks.specs.AssembledMarks.{narrowed_warp, assembled_marked, assembled_marks}

module _ (beats lengths : List Float) (marks : List ℕ) (even : length lengths ≡ length marks) where
  even-after : length (map quantized lengths) ≡ length marks
  even-after = length-map lengths quantized ∙ even

  abbrev tidy : List Warp
  tidy = tidy_warps (map quantized beats) (map quantized lengths) marks

  pub without_marks : map without_mark (assembled_marked beats lengths marks) ≡ assembled_rows (change_by Lengths) beats lengths
  unfolding assembled_marked assembled_rows
  without_marks =
      map-map without_mark narrowed_warp tidy ∙ sym (map-map narrowed_entry without_mark tidy)
      ∙ ap (map narrowed_entry) (tidied.without_marks (map quantized beats) (map quantized lengths) marks even-after)

  pub marks-carried : map warp_mark (assembled_marked beats lengths marks) ≡ assembled_marks beats marks
  unfolding assembled_marked
  marks-carried = map-map warp_mark narrowed_warp tidy ∙ tidied.marks-carried (map quantized beats) (map quantized lengths) marks even-after

  pub as_many_marks : length (assembled_marks beats marks) ≡ length (assembled_rows (change_by Lengths) beats lengths)
  as_many_marks =
      sym (ap length marks-carried) ∙ length-map (assembled_marked beats lengths marks) warp_mark
      ∙ sym (length-map (assembled_marked beats lengths marks) without_mark) ∙ ap length without_marks
