-- `tidy_by_rows::place_after` halves what is left until the place is found. Assumes nothing.
use Rattle.tidy_kept.proofs.Searched.{Halving}
use Rattle.rows.specs.RowKey.{row_key_at}
use lib.Dec.{leb}
use lib.ListN.{length, get_or}
use lib.Ieee.{Float, nan}
use mathlib.Core.Bool.{Bool}
use mathlib.Core.List.{List}
use Prim.Native.Nat.{ℕ, ◌-◌}
use Rattle.tidy_by_rows.proofs.place_after.Given as goal

-- whether the beat at a place is on a row up to one
abbrev pub passes : List Float → ℕ → ℕ → Bool
passes beats row i = leb (row_key_at (get_or beats i nan)) row

abbrev pub invariant-loop-low : goal.invariant-loop-low
invariant-loop-low l = Halving (passes l.beats l.row) (length l.beats) l.low l.high

abbrev pub decreases-loop-low : goal.decreases-loop-low
decreases-loop-low l = l.high - l.low
