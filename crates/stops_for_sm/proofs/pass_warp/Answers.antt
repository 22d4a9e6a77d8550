-- `stops_for_sm::pass_warp` passes what warps have on the beat. Assumes nothing.
use Rattle.std.proofs.Common.{◌≡◌, ◌<◌, true, length, get_or, ap, arith}
use lib.Ieee.{Float, nan, binary32, sub, mul}
use Rattle.stops_for_sm.specs.Merging.{meets}
use Rattle.stops_for_sm.proofs.EveryTurnMeets.{here}
use Rattle.stops_for_sm.proofs.HeadsInHand.{met_as}
use Rattle.stops_for_sm.proofs.pass_warp.Goals as goal
use Rattle.stops_for_sm.proofs.pass_warp.Goals.{Then-head-beat}

met : (c : Then-head-beat) → meets c.args.warp_beats.now c.args.place c.args.beat ≡ true
met c =
    let start = c in
    met_as start.args.warp_beats.now start.args.place start.args.head start.args.beat start.requires.head_value.0 start.requires.head_value.1 c.if-head-beat.true

inside : (c : Then-head-beat) → c.args.place < length c.args.warp_lengths.now
inside c =
    let start = c in
    omega (arith, here start.args.warp_beats.now start.args.place start.args.beat (met c), start.requires.tempo_in_bounds.2)

pub pace_up_to-pace-requires : goal.pace_up_to-pace-requires
pace_up_to-pace-requires c =
    record {
      tempo_in_bounds = c.requires.tempo_in_bounds.0;
      next_value = c.requires.next_value;
    }

pub offset_bounds-warp_lengths-place : goal.offset_bounds-warp_lengths-place
offset_bounds-warp_lengths-place c =
    let h = inside (goal.at.offset_bounds-warp_lengths-place c).Then-head-beat in let g = c.well_formed.1.1.1.0.1 in record { fits = omega arith }

pub bounds-warp_lengths-place : goal.bounds-warp_lengths-place
bounds-warp_lengths-place c = inside (goal.at.bounds-warp_lengths-place c).Then-head-beat

pub returns-then-head-beat : goal.returns-then-head-beat
returns-then-head-beat c =
    let start = c in
    let pace = c.pace_up_to-pace.ensures in
    let taken = ap (λ (x : Float). sub binary32 start.args.sum (mul binary32 x (get_or start.args.warp_lengths.now start.args.place nan))) pace.seconds_is in
    let is = met (goal.at.returns-then-head-beat c).Then-head-beat in
    record { tempo_is = rw is pace.tempo_is; place_is = rw is; sum_is = rw is taken; next_is = pace.next_is; seconds_is = pace.seconds_is; head_is = c.head_at.ensures }

pub returns : goal.returns
returns c =
    let start = c in
    let is = met_as start.args.warp_beats.now start.args.place start.args.head start.args.beat start.requires.head_value.0 start.requires.head_value.1 c.if-head-beat.false in
    record { tempo_is = rw is; place_is = rw is; sum_is = rw is; next_is = start.requires.next_value.0; seconds_is = start.requires.next_value.1; head_is = start.requires.head_value.0 }
