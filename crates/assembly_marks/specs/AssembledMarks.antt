-- Warps with their marks, merged and assembled. Definitions only.
use Rattle.std.specs.Prelude.{ℕ, Bool, List, ◌++◌, map, eqb, get_or, replicate, Float}
use Rattle.ieee.specs.Narrowing.{narrow}
use Rattle.rows.specs.Rows.{quantized}
use Rattle.limits.specs.Numbers.{every}
use Rattle.tidy_warps.specs.Marks.{Warp, made_mark}
use Rattle.tidy_warps.specs.WarpTidying.{tidy_warps, tidy_marks}

-- ---- merging: given warps come first, and behind them those that are made
abbrev pub as_made : Float × Float → Warp
as_made warp = (warp.0, (warp.1, made_mark))

-- the marks of so many made ones behind the given marks
abbrev pub merged_marks : List ℕ → ℕ → List ℕ
merged_marks marks made = marks ++ replicate made made_mark

-- ---- assembly: beats and lengths quantised, tidied by row, beats and lengths as f32; a mark stays with its warp
abbrev pub narrowed_warp : Warp → Warp
narrowed_warp warp = (narrow warp.0, (narrow warp.1.0, warp.1.1))

unfoldable pub assembled_marked : List Float → List Float → List ℕ → List Warp
assembled_marked beats lengths marks = map narrowed_warp (tidy_warps (map quantized beats) (map quantized lengths) marks)

-- the marks alone, tidied over the same beats
abbrev pub assembled_marks : List Float → List ℕ → List ℕ
assembled_marks beats marks = tidy_marks (map quantized beats) marks

-- whether all marks are the first one: tidying leaves such a column as it is, but for its length
unfoldable pub all_the_same : List ℕ → Bool
all_the_same marks = every (λ (mark : ℕ). eqb mark (get_or marks 0 0)) marks
