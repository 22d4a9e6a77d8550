-- `stops_for_sm::pass_delay` passes what delays have on the beat. Assumes nothing.
use Rattle.std.proofs.Common.{◌≡◌, ◌<◌, true, length, arith}
use Rattle.stops_for_sm.specs.Merging.{meets}
use Rattle.stops_for_sm.proofs.EveryTurnMeets.{here}
use Rattle.stops_for_sm.proofs.HeadsInHand.{met_as}
use Rattle.stops_for_sm.proofs.pass_delay.Goals as goal
use Rattle.stops_for_sm.proofs.pass_delay.Goals.{Then-head-beat}

met : (c : Then-head-beat) → meets c.args.delay_beats.now c.args.place c.args.beat ≡ true
met c =
    let start = c in
    met_as start.args.delay_beats.now start.args.place start.args.head start.args.beat start.requires.head_value.0 start.requires.head_value.1 c.if-head-beat.true

inside : (c : Then-head-beat) → c.args.place < length c.args.delay_values.now
inside c =
    let start = c in
    omega (arith, here start.args.delay_beats.now start.args.place start.args.beat (met c), start.requires.place_bound.1)

pub offset_bounds-delay_values-place : goal.offset_bounds-delay_values-place
offset_bounds-delay_values-place c =
    let h = inside (goal.at.offset_bounds-delay_values-place c).Then-head-beat in let g = c.well_formed.1.0.1 in record { fits = omega arith }

pub bounds-delay_values-place : goal.bounds-delay_values-place
bounds-delay_values-place c = inside (goal.at.bounds-delay_values-place c).Then-head-beat

pub returns-then-head-beat : goal.returns-then-head-beat
returns-then-head-beat c = let is = met (goal.at.returns-then-head-beat c).Then-head-beat in record { place_is = rw is; sum_is = rw is; head_is = c.head_at.ensures }

pub returns : goal.returns
returns c =
    let start = c in
    let is = met_as start.args.delay_beats.now start.args.place start.args.head start.args.beat start.requires.head_value.0 start.requires.head_value.1 c.if-head-beat.false in
    record { place_is = rw is; sum_is = rw is; head_is = start.requires.head_value.0 }
