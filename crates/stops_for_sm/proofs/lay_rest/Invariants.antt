-- `stops_for_sm::lay_rest` lays the stops that are left. Assumes nothing.
use Rattle.std.proofs.Common.{◌≡◌, ◌+◌, ◌-◌, ◌%◌, ◌≤◌, ◌++◌, length, take}
use Rattle.order.proofs.LaidOverFront.{Laying}
use Rattle.stops_for_sm.specs.Merging.{merged_stops}
use Rattle.stops_for_sm.specs.Filling.{flat}
use Rattle.stops_for_sm.specs.inside.InHand.{stops_alone, at_stop}
use Rattle.stops_for_sm.proofs.lay_rest.Given as goal

abbrev pub invariant-loop-stop : goal.invariant-loop-stop
invariant-loop-stop l = Laying (take l.count l.initial.work ++ flat (merged_stops (stops_alone l.stops) (at_stop l.from))) l.initial.work l.work (flat (merged_stops (stops_alone l.stops) (at_stop l.stop))) l.at × (l.stop % 2 ≡ 0) × (l.stop ≤ length l.stops + 1)

abbrev pub decreases-loop-stop : goal.decreases-loop-stop
decreases-loop-stop l = length l.stops - l.stop
