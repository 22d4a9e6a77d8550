-- Beats and lengths with marks carried are those without, for all marks; and the marks are those of the tidied entries. Assumes nothing.
use Prim.Native.Nat.{ℕ}
use mathlib.Core.Path.{◌≡◌, sym, ap, ◌∙◌}
use mathlib.Core.List.{List, map, map-map}
use lib.ListN.{length, length-map}
use lib.Ieee.{Float}
use Rattle.order.specs.Entries.{first, second}
use Rattle.tidy_rows.specs.RowTidying.{tidy_rows}
use Rattle.tidy_rows.proofs.AnyValues.{changed, tidied-firsts, tidied-seconds}
use Rattle.tidy_warps.specs.Marks.{without_mark, length_of, warp_mark}
use Rattle.tidy_warps.specs.WarpTidying.{tidy_warps, tidy_marks}

module _ (beats lengths : List Float) (marks : List ℕ) (even : length lengths ≡ length marks) where
  pub without_marks : map without_mark (tidy_warps beats lengths marks) ≡ tidy_rows beats lengths
  without_marks = tidied-firsts beats lengths marks even

  pub marks-carried : map warp_mark (tidy_warps beats lengths marks) ≡ tidy_marks beats marks
  unfolding tidy_marks
  marks-carried = sym (map-map second (changed second) (tidy_warps beats lengths marks)) ∙ ap (map second) (tidied-seconds beats lengths marks even)

  -- column by column
  pub beats-carried : map first (tidy_warps beats lengths marks) ≡ map first (tidy_rows beats lengths)
  beats-carried = sym (map-map first without_mark (tidy_warps beats lengths marks)) ∙ ap (map first) without_marks

  pub lengths-carried : map length_of (tidy_warps beats lengths marks) ≡ map second (tidy_rows beats lengths)
  lengths-carried = sym (map-map second without_mark (tidy_warps beats lengths marks)) ∙ ap (map second) without_marks

  pub as_many_rows : length (tidy_warps beats lengths marks) ≡ length (tidy_rows beats lengths)
  as_many_rows = sym (length-map (tidy_warps beats lengths marks) without_mark) ∙ ap length without_marks

  pub as_many_marks : length (tidy_warps beats lengths marks) ≡ length (tidy_marks beats marks)
  as_many_marks = sym (length-map (tidy_warps beats lengths marks) warp_mark) ∙ ap length marks-carried
