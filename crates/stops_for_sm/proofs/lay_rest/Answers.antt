-- `stops_for_sm::lay_rest` lays the stops that are left. Assumes nothing.
use Rattle.std.proofs.Common.{◌≡◌, ◌+◌, ◌%◌, ◌<◌, ◌≤◌, ◌++◌, length, get_or, take, refl, ap, ◌∙◌, arith, length-append, length-take-le}
use lib.Ieee.{nan, binary32, add, of_bits}
use Rattle.ieee.specs.Constants.{plus_zero}
use Rattle.order.proofs.LaidOverFront.{Laying, laying-count, laying-all}
use Rattle.stops_for_sm.specs.Merging.{Turned, turn, merged_stops}
use Rattle.stops_for_sm.specs.Filling.{flat}
use Rattle.stops_for_sm.specs.inside.InHand.{stops_alone, at_stop}
use Rattle.stops_for_sm.specs.Plain.{Plain}
use Rattle.stops_for_sm.proofs.EveryTurnMeets.{merged-end}
use Rattle.stops_for_sm.proofs.TurnByTurn.{sum_room, laid-turn}
use Rattle.stops_for_sm.proofs.StopsLeft.{alone-plain, alone-more, alone-over, alone-turn}
use Rattle.stops_for_sm.proofs.lay_rest.Goals as goal
use Rattle.stops_for_sm.proofs.lay_rest.Goals.{At-loop-stop, In-loop-stop, After-lay_sum-at}

-- ---- where the loop stands
plain : (c : At-loop-stop) → Plain (stops_alone c.args.stops.now)
plain c = alone-plain c.args.stops.now c.requires.all_finite.0 c.requires.all_finite.1

whole : (c : At-loop-stop) → length (take c.args.count c.args.work.now ++ flat (merged_stops (stops_alone c.args.stops.now) (at_stop c.args.from))) ≡ c.args.count + length (flat (merged_stops (stops_alone c.args.stops.now) (at_stop c.args.from)))
whole c =
    omega (arith, length-append (take c.args.count c.args.work.now) (flat (merged_stops (stops_alone c.args.stops.now) (at_stop c.args.from))), length-take-le c.args.count c.args.work.now c.requires.count_in_bounds.0)

inside : (c : In-loop-stop) → c.loop-stop.stop + 1 < length c.args.stops.now
inside c = omega (arith, c.loop-stop-test.true, c.loop-stop.invariant.1, c.requires.all_finite.1)

abbrev made : In-loop-stop → Turned
made c =
    let stops = c.args.stops.now in
    let stop = c.loop-stop.stop in
    record { heads = at_stop (stop + 2); beat = get_or stops stop nan; value = add binary32 plus_zero (get_or stops (stop + 1) nan) }

is : (c : In-loop-stop) → made c ≡ turn (stops_alone c.args.stops.now) (at_stop c.loop-stop.stop)
is c = alone-turn c.args.stops.now c.loop-stop.stop c.requires.all_finite.0 c.loop-stop-test.true

-- where it stands after a turn
onward : (c : After-lay_sum-at)
    → Laying (take c.args.count c.args.work.now ++ flat (merged_stops (stops_alone c.args.stops.now) (at_stop c.args.from))) c.args.work.now c.lay_sum-at.new.work (flat (merged_stops (stops_alone c.args.stops.now) (at_stop (c.loop-stop.stop + 2)))) c.lay_sum-at.result
    × ((c.loop-stop.stop + 2) % 2 ≡ 0)
    × (c.loop-stop.stop + 2 ≤ length c.args.stops.now + 1)
unfolding of_bits
onward c =
    let a = c.args in
    let stops = a.stops.now in
    let l = c.loop-stop in
    let left = flat (merged_stops (stops_alone stops) (at_stop a.from)) in
    let new = take a.count a.work.now ++ left in
    let done = c.lay_sum-at in
    let finite = c.requires.all_finite in
    let fits : length new ≤ length a.work.now = omega (arith, length-append (take a.count a.work.now) left, length-take-le a.count a.work.now c.requires.count_in_bounds.0, c.requires.count_in_bounds.1) in
    let is = alone-turn stops l.stop finite.0 c.loop-stop-test.true in
    (laid-turn (stops_alone stops) (at_stop l.stop) (alone-plain stops finite.0 finite.1) new a.work.now l.work l.at l.invariant.0 fits (alone-more stops l.stop c.loop-stop-test.true) _ is done.result done.new.work done.ensures.value done.ensures.work_after, omega (arith, l.invariant.1), omega (arith, c.loop-stop-test.true, l.invariant.1, finite.1))

-- ---- what is asked
pub loop-stop-init : goal.loop-stop-init
loop-stop-init c =
    (record { size = refl; within = c.requires.count_in_bounds.0; done = refl; rest = refl }, c.requires.all_finite.2, c.requires.all_finite.3)

pub offset_bounds-stops-stop-in-loop-stop : goal.offset_bounds-stops-stop-in-loop-stop
offset_bounds-stops-stop-in-loop-stop c =
    let h = inside (goal.at.offset_bounds-stops-stop-in-loop-stop c).In-loop-stop in let g = c.well_formed.0.1 in record { fits = omega arith }

pub bounds-stops-stop-in-loop-stop : goal.bounds-stops-stop-in-loop-stop
bounds-stops-stop-in-loop-stop c = inside (goal.at.bounds-stops-stop-in-loop-stop c).In-loop-stop

pub lay_sum-at-requires : goal.lay_sum-at-requires
unfolding of_bits
lay_sum-at-requires c =
    let a = c.args in
    let stops = a.stops.now in
    let l = c.loop-stop in
    let new = take a.count a.work.now ++ flat (merged_stops (stops_alone stops) (at_stop a.from)) in
    record {
      at_in_bounds = sum_room (stops_alone stops) (at_stop l.stop) (plain (goal.at.lay_sum-at-requires c).At-loop-stop) new a.work.now l.work l.at l.invariant.0 (omega (arith, whole (goal.at.lay_sum-at-requires c).At-loop-stop, c.requires.count_in_bounds.1)) (alone-more stops l.stop c.loop-stop-test.true) (made (goal.at.lay_sum-at-requires c).In-loop-stop) (is (goal.at.lay_sum-at-requires c).In-loop-stop);
      at_bound = omega (arith, l.invariant.0.within, l.invariant.0.size, c.well_formed.1.0.1);
    }

pub loop-stop-smaller : goal.loop-stop-smaller
loop-stop-smaller c = omega (arith, c.loop-stop-test.true)

pub loop-stop-preserved : goal.loop-stop-preserved
loop-stop-preserved c = onward (goal.at.loop-stop-preserved c).After-lay_sum-at

pub returns : goal.returns
unfolding flat
returns c =
    let a = c.args in
    let stops = a.stops.now in
    let l = c.loop-stop in
    let new = take a.count a.work.now ++ flat (merged_stops (stops_alone stops) (at_stop a.from)) in
    let left = flat (merged_stops (stops_alone stops) (at_stop l.stop)) in
    let plus_zero = ap flat (merged-end (stops_alone stops) (plain (goal.at.returns c).At-loop-stop) (at_stop l.stop) (alone-over stops l.stop c.loop-stop-test.false)) in
    record {
      value = laying-count new a.work.now l.work left l.at l.invariant.0 plus_zero ∙ whole (goal.at.returns c).At-loop-stop;
      work_after = laying-all new a.work.now l.work left l.at l.invariant.0 plus_zero;
    }

pub returns-2 : goal.returns-2
unfolding flat
returns-2 c =
    let a = c.args in
    let stops = a.stops.now in
    let next = c.loop-stop.stop + 2 in
    let laid = onward (goal.at.returns-2 c).After-lay_sum-at in
    let new = take a.count a.work.now ++ flat (merged_stops (stops_alone stops) (at_stop a.from)) in
    let left = flat (merged_stops (stops_alone stops) (at_stop next)) in
    let none = ap flat (merged-end (stops_alone stops) (plain (goal.at.returns-2 c).At-loop-stop) (at_stop next) (alone-over stops next (omega arith))) in
    record {
      value = laying-count new a.work.now c.lay_sum-at.new.work left c.lay_sum-at.result laid.0 none ∙ whole (goal.at.returns-2 c).At-loop-stop;
      work_after = laying-all new a.work.now c.lay_sum-at.new.work left c.lay_sum-at.result laid.0 none;
    }
