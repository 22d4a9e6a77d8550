use Rattle.std.proofs.Common.{◌≡◌, ◌+◌, drop}
use Rattle.order.specs.Entries.{entries}
use Rattle.process_sm_walk.specs.Chart.{taken_off, stops_before, offset_of}
use Rattle.process_sm_walk.proofs.early_stops.Given as goal

abbrev pub invariant-loop-at : goal.invariant-loop-at
invariant-loop-at l = (taken_off l.offset (drop l.at (entries l.beats l.values)) ≡ offset_of (entries l.beats l.values))
    × (l.at + stops_before (drop l.at (entries l.beats l.values)) ≡ stops_before (entries l.beats l.values))
