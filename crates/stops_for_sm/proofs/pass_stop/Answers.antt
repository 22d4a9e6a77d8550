-- `stops_for_sm::pass_stop` passes what stops have on the beat. Assumes nothing.
use Rattle.std.proofs.Common.{◌≡◌, ◌+◌, ◌<◌, true, length, arith}
use lib.Ieee.{of_bits}
use Rattle.stops_for_sm.specs.Merging.{meets}
use Rattle.stops_for_sm.proofs.EveryTurnMeets.{here}
use Rattle.stops_for_sm.proofs.HeadsInHand.{met_as}
use Rattle.stops_for_sm.proofs.pass_stop.Goals as goal
use Rattle.stops_for_sm.proofs.pass_stop.Goals.{Then-head-beat}

met : (c : Then-head-beat) → meets c.args.stops.now c.args.place c.args.beat ≡ true
met c =
    let start = c in
    met_as start.args.stops.now start.args.place start.args.head start.args.beat start.requires.head_value.0 start.requires.head_value.1 c.if-head-beat.true

inside : (c : Then-head-beat) → c.args.place + 1 < length c.args.stops.now
inside c =
    let start = c in
    omega (arith, here start.args.stops.now start.args.place start.args.beat (met c), start.requires.place_bound.1, start.requires.place_bound.2)

pub offset_bounds-stops-place : goal.offset_bounds-stops-place
offset_bounds-stops-place c =
    let h = inside (goal.at.offset_bounds-stops-place c).Then-head-beat in let g = c.well_formed.0.1 in record { fits = omega arith }

pub bounds-stops-place : goal.bounds-stops-place
bounds-stops-place c = inside (goal.at.bounds-stops-place c).Then-head-beat

pub returns-then-head-beat : goal.returns-then-head-beat
unfolding of_bits
returns-then-head-beat c = let is = met (goal.at.returns-then-head-beat c).Then-head-beat in record { place_is = rw is; sum_is = rw is; head_is = c.head_at.ensures }

pub returns : goal.returns
unfolding of_bits
returns c =
    let start = c in
    let is = met_as start.args.stops.now start.args.place start.args.head start.args.beat start.requires.head_value.0 start.requires.head_value.1 c.if-head-beat.false in
    record { place_is = rw is; sum_is = rw is; head_is = start.requires.head_value.0 }
