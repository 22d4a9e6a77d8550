-- `tidy_rows::look_at_neighbours` counts falls, repeats and rises over each two neighbours. Assumes nothing.
use Prim.Native.Nat.{◌+◌}
use Rattle.order.proofs.LastEntries.{Repeats}
use Rattle.order.proofs.FallsCounted.{Falls}
use Rattle.order.proofs.RisesCounted.{Unrisen}
use Rattle.rows.specs.RowKey.{row_key_at}
use Rattle.tidy_rows.proofs.look_at_neighbours.Given as goal

abbrev pub invariant-loop-i : goal.invariant-loop-i
invariant-loop-i l = Falls row_key_at l.beats l.i l.fallen × Repeats row_key_at l.beats l.i l.repeated × Unrisen row_key_at l.beats l.i (l.fallen + l.repeated)
