-- `tidy_by_rows::in_order` compares each row with the one before. Assumes nothing.
use Rattle.tidy_kept.proofs.PassTurns.{never_from}
use Rattle.rows.specs.RowKey.{row_key_at}
use Rattle.order.specs.Order.{never_falls}
use lib.ListN.{drop}
use mathlib.Core.Path.{◌≡◌}
use Rattle.tidy_by_rows.proofs.in_order.Given as goal

abbrev pub invariant-loop-beat : goal.invariant-loop-beat
invariant-loop-beat l = never_from row_key_at l.last (drop l.beat-index l.beats) ≡ never_falls row_key_at l.beats
