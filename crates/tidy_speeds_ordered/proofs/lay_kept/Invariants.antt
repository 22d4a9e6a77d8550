-- `tidy_speeds_ordered::lay_kept` lays what the pass writes. Assumes nothing.
use Prim.Native.Nat.{◌≤◌}
use lib.ListN.{drop}
use Rattle.rows.specs.RowKey.{row_key_at}
use Rattle.tidy_kept.specs.Passing.{still_written}
use Rattle.tidy_speeds_entries.specs.Speed.{near_speed, speed_entries}
use Rattle.tidy_speeds_ordered.specs.inside.Waiting.{speed_waiting}
use Rattle.tidy_speeds_ordered.specs.OrderedSpeeds.{kept_speeds}
use Rattle.tidy_speeds_entries.proofs.SpeedsLaid.{LayingSpeeds}
use Rattle.tidy_speeds_ordered.proofs.lay_kept.Given as goal

abbrev pub invariant-loop-i : goal.invariant-loop-i
invariant-loop-i l = (l.count ≤ l.i) × LayingSpeeds (kept_speeds (speed_entries l.beats l.ratios l.delays l.units)) (still_written row_key_at near_speed (speed_waiting l.held) (drop l.i (speed_entries l.beats l.ratios l.delays l.units))) l.initial.out_beats l.out_beats l.initial.out_ratios l.out_ratios l.initial.out_delays l.out_delays l.initial.out_units l.out_units l.count
