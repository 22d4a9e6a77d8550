-- `tidy_speeds_ordered::count_kept` counts what the pass would write. Assumes nothing.
use Prim.Native.Nat.{◌+◌, ◌≤◌}
use mathlib.Core.Path.{◌≡◌}
use lib.ListN.{length, drop}
use Rattle.rows.specs.RowKey.{row_key_at}
use Rattle.tidy_kept.specs.Passing.{still_written}
use Rattle.tidy_speeds_entries.specs.Speed.{near_speed, speed_entries}
use Rattle.tidy_speeds_ordered.specs.inside.Waiting.{speed_waiting}
use Rattle.tidy_speeds_ordered.specs.OrderedSpeeds.{kept_speeds}
use Rattle.tidy_speeds_ordered.proofs.count_kept.Given as goal

abbrev pub invariant-loop-i : goal.invariant-loop-i
invariant-loop-i l = (l.count ≤ l.i) × (l.count + length (still_written row_key_at near_speed (speed_waiting l.held) (drop l.i (speed_entries l.beats l.ratios l.delays l.units))) ≡ length (kept_speeds (speed_entries l.beats l.ratios l.delays l.units)))
