-- A list of more than 1,024 warps is refused with 1 before anything of it is looked at. Assumes nothing.
use Prim.Native.Nat.{ℕ, ◌<◌}
use mathlib.Core.Path.{◌≡◌, sym}
use mathlib.Core.List.{List, map}
use native.Mathlib.Omega.{arith}
use borrow.Author.Tests.{lt-ltb}
use lib.ListN.{length, length-map}
use lib.Ieee.{Float}
use Rattle.rows.specs.Rows.{quantized}
use Rattle.columns.specs.Laying.{refused_by}
use Rattle.tidy_marks.specs.MarkTidying.{marked_number}
use Rattle.tidy_marks.proofs.TidiedMarks.{marks-refused}
use Rattle.tidy_marks.specs.MarkTidying.{MarksAssembled}

module _ (beats : List Float) (marks : List ℕ) (far : 1024 < length beats) where
  number : marked_number (map quantized beats) marks ≡ 1
  unfolding marked_number
  number = rw (length-map beats quantized, lt-ltb 1024 (length beats) far)

  pub too_long : (old : List ℕ) → MarksAssembled beats marks (refused_by 1) old old
  too_long old = marks-refused (map quantized beats) marks old 1 (sym number) (λ e. omega arith)
