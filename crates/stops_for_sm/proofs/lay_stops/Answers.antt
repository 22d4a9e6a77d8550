-- `stops_for_sm::lay_stops` lays the sums. Assumes nothing.
use Rattle.stops_for_sm.proofs.TurnByTurn.{Fit, first-fit, turned-fit, list_by_list, sum_room, laid-turn}
use Rattle.stops_for_sm.proofs.EveryTurnMeets.{left-falls, over_by_least}
use Rattle.stops_for_sm.proofs.HeadsInHand.{least_in_hand, none_left, over_in_hand, both-over, more_left}
use Rattle.stops_for_sm.proofs.StopsLeft.{stops-left, count-behind, laid-behind}
use Rattle.stops_for_sm.specs.Filling.{flat}
use Rattle.order.proofs.LaidOverFront.{laying-none, laid-length}
use Rattle.order.specs.Order.{laid}
use Rattle.stops_for_sm.specs.inside.InHand.{stops_alone, at_stop}
use Rattle.std.proofs.Common.{◌≡◌, ◌+◌, ◌<◌, true, false, not, ltb, List, ◌++◌, length, take, sym, ap, ◌∙◌, subst, arith}
use Rattle.stops_for_sm.specs.Merging.{Sources, Heads, Turned, sources, least_beat, beat_here, is_over, turn, turns_left, merged_stops, at_first}
use Rattle.stops_for_sm.specs.Plain.{Plain}
use borrow.Author.Tests.{not-false}
use lib.Ieee.{Float, inf, lt, of_bits}
use Rattle.stops_for_sm.proofs.lay_stops.Goals as goal
use Rattle.stops_for_sm.proofs.lay_stops.Goals.{After-are_over, After-lay_rest, After-lesser_of-beat, After-pass_warp-warped, At-loop-work, Else-are_over, Then-are_over}

-- ---- where the loop stands
abbrev lists : At-loop-work → Sources
lists c =
    let a = c.args in
    sources a.tempo_beats.now a.tempo_values.now a.stops.now a.delay_beats.now a.delay_values.now a.warp_beats.now a.warp_lengths.now

abbrev heads : At-loop-work → Heads
heads c = record { tempo = c.loop-work.tempo; stop = c.loop-work.stop; delay = c.loop-work.delay; warp = c.loop-work.warp }

plain : (c : At-loop-work) → Plain (lists c)
plain c = c.requires.fact

-- ---- one turn
others : (c : After-are_over) → c.are_over.result ≡ none_left (lists (goal.at.After-are_over c).At-loop-work) (heads (goal.at.After-are_over c).At-loop-work)
others c =
    let l = c in
    c.are_over.ensures ∙ over_in_hand (lists (goal.at.After-are_over l).At-loop-work) (heads (goal.at.After-are_over l).At-loop-work) l.loop-work.next l.loop-work.seconds l.loop-work.stop_beat l.loop-work.delay_beat l.loop-work.warp_beat (plain (goal.at.After-are_over l).At-loop-work) l.loop-work.invariant.2

more : (c : Else-are_over) → is_over (lists (goal.at.Else-are_over c).At-loop-work) (heads (goal.at.Else-are_over c).At-loop-work) ≡ false
more c = more_left (lists (goal.at.Else-are_over c).At-loop-work) (heads (goal.at.Else-are_over c).At-loop-work) (sym (others (goal.at.Else-are_over c).After-are_over) ∙ c.if-are_over.false)

least : (c : After-lesser_of-beat) → c.lesser_of-beat.result ≡ beat_here (lists (goal.at.After-lesser_of-beat c).At-loop-work) (heads (goal.at.After-lesser_of-beat c).At-loop-work)
least c =
    let l = c in
    least_in_hand (lists (goal.at.After-lesser_of-beat l).At-loop-work) (heads (goal.at.After-lesser_of-beat l).At-loop-work) l.loop-work.next l.loop-work.seconds l.loop-work.stop_beat l.loop-work.delay_beat l.loop-work.warp_beat (plain (goal.at.After-lesser_of-beat l).At-loop-work) l.loop-work.invariant.2 c.lesser_of.result c.lesser_of-beat.result c.lesser_of.ensures c.lesser_of-beat.ensures

finite : (c : After-lesser_of-beat) → lt c.lesser_of-beat.result (inf false) ≡ true
finite c =
    let l = c in
    not-false (lt c.lesser_of-beat.result (inf false)) (ap (λ (x : Float). not (lt x (inf false))) (least c) ∙ over_by_least (lists (goal.at.After-lesser_of-beat l).At-loop-work) (heads (goal.at.After-lesser_of-beat l).At-loop-work) (plain (goal.at.After-lesser_of-beat l).At-loop-work) ∙ more (goal.at.After-lesser_of-beat c).Else-are_over)

abbrev made : After-pass_warp-warped → Turned
made c = record {
  heads = record { tempo = c.pass_warp-warped.result.tempo; stop = c.pass_stop-stopped.result.place; delay = c.pass_delay-delayed.result.place; warp = c.pass_warp-warped.result.place };
  beat = c.lesser_of-beat.result;
  value = c.pass_warp-warped.result.sum;
}

is : (c : After-pass_warp-warped) → made c ≡ turn (lists (goal.at.After-pass_warp-warped c).At-loop-work) (heads (goal.at.After-pass_warp-warped c).At-loop-work)
unfolding least_beat
is c =
    let l = c in
    let stopped = c.pass_stop-stopped in
    let delayed = c.pass_delay-delayed in
    let warped = c.pass_warp-warped in
    list_by_list (lists (goal.at.After-pass_warp-warped l).At-loop-work) (heads (goal.at.After-pass_warp-warped l).At-loop-work) c.lesser_of-beat.result (least (goal.at.After-pass_warp-warped c).After-lesser_of-beat) stopped.result.place delayed.result.place warped.result.tempo warped.result.place stopped.result.sum delayed.result.sum warped.result.sum stopped.ensures.place_is stopped.ensures.sum_is delayed.ensures.place_is delayed.ensures.sum_is warped.ensures.tempo_is warped.ensures.place_is warped.ensures.sum_is

pub loop-work-init : goal.loop-work-init
unfolding of_bits
loop-work-init c =
    let a = c.args in
    let s : Sources = sources a.tempo_beats.now a.tempo_values.now a.stops.now a.delay_beats.now a.delay_values.now a.warp_beats.now a.warp_lengths.now in (
      laying-none (flat (merged_stops s at_first)) a.work.now,
      first-fit s,
      record {
        next = c.head_at-next.ensures;
        seconds = rw c.read_at-seconds.ensures;
        stop = c.head_at-stop_beat.ensures;
        delay = c.head_at-delay_beat.ensures;
        warp = c.head_at-warp_beat.ensures;
      },
    )

-- ---- the stops that are left
rest : (c : Then-are_over) → flat (merged_stops (lists (goal.at.Then-are_over c).At-loop-work) (heads (goal.at.Then-are_over c).At-loop-work)) ≡ flat (merged_stops (stops_alone (lists (goal.at.Then-are_over c).At-loop-work).stops) (at_stop c.loop-work.stop))
rest c =
    let l = c in
    let none = both-over (ltb l.loop-work.delay (length (lists (goal.at.Then-are_over l).At-loop-work).delay_beats)) (ltb l.loop-work.warp (length (lists (goal.at.Then-are_over l).At-loop-work).warp_beats)) (sym (others (goal.at.Then-are_over c).After-are_over) ∙ c.if-are_over.true) in
    ap flat (stops-left (lists (goal.at.Then-are_over l).At-loop-work) (heads (goal.at.Then-are_over l).At-loop-work) none.0 none.1)

pub lay_rest-requires : goal.lay_rest-requires
lay_rest-requires c =
    let l = c in
    let fit = l.loop-work.invariant.1 in
    record {
      all_finite = ((plain (goal.at.lay_rest-requires l).At-loop-work).stops, (plain (goal.at.lay_rest-requires l).At-loop-work).stop_pairs, fit.stop_pair, fit.stop);
      count_in_bounds = (l.loop-work.invariant.0.within, omega (arith, count-behind l.loop-work.invariant.0, ap length (rest (goal.at.lay_rest-requires c).Then-are_over), l.loop-work.invariant.0.size, l.requires.at_first_in_bounds));
    }

written : (c : After-lay_rest) → c.lay_rest.new.work ≡ laid (flat (merged_stops (lists (goal.at.After-lay_rest c).At-loop-work) at_first)) c.args.work.now
written c =
    let l = c in
    c.lay_rest.ensures.work_after ∙ ap (λ (turns_left : List Float). laid (take l.loop-work.at l.loop-work.work ++ turns_left) l.loop-work.work) (sym (rest (goal.at.After-lay_rest c).Then-are_over)) ∙ laid-behind l.loop-work.invariant.0

pub shape_of-work-then-are_over : goal.shape_of-work-then-are_over
shape_of-work-then-are_over c =
    ap length (written (goal.at.shape_of-work-then-are_over c).After-lay_rest) ∙ laid-length (flat (merged_stops (lists (goal.at.shape_of-work-then-are_over c).At-loop-work) at_first)) c.args.work.now c.requires.at_first_in_bounds

pub returns-then-are_over : goal.returns-then-are_over
returns-then-are_over c =
    let l = c in
    record {
      result_value = c.lay_rest.ensures.value ∙ ap (λ (turns_left : List Float). l.loop-work.at + length turns_left) (sym (rest (goal.at.returns-then-are_over c).Then-are_over)) ∙ count-behind l.loop-work.invariant.0;
      work_after = written (goal.at.returns-then-are_over c).After-lay_rest;
    }

pub pass_stop-stopped-requires : goal.pass_stop-stopped-requires
pass_stop-stopped-requires c =
    let l = c in
    record {
      place_bound = (omega (arith, l.loop-work.invariant.1.stop, l.well_formed.1.1.0.1), l.loop-work.invariant.1.stop_pair, (plain (goal.at.pass_stop-stopped-requires l).At-loop-work).stop_pairs);
      head_value = (l.loop-work.invariant.2.stop, finite c);
    }

pub pass_delay-delayed-requires : goal.pass_delay-delayed-requires
pass_delay-delayed-requires c =
    let l = c in
    record {
      place_bound = (omega (arith, l.loop-work.invariant.1.delay, l.well_formed.1.1.1.0.1), (plain (goal.at.pass_delay-delayed-requires l).At-loop-work).delay_columns);
      head_value = (l.loop-work.invariant.2.delay, finite (goal.at.pass_delay-delayed-requires c).After-lesser_of-beat);
    }

pub pass_warp-warped-requires : goal.pass_warp-warped-requires
pass_warp-warped-requires c =
    let l = c in
    let hand = l.loop-work.invariant.2 in
    record {
      tempo_in_bounds = (l.loop-work.invariant.1.tempo, omega (arith, l.loop-work.invariant.1.warp, l.well_formed.1.1.1.1.1.0.1), (plain (goal.at.pass_warp-warped-requires l).At-loop-work).warp_columns);
      next_value = (hand.next, hand.seconds);
      head_value = (hand.warp, finite (goal.at.pass_warp-warped-requires c).After-lesser_of-beat);
    }

pub lay_sum-at-requires : goal.lay_sum-at-requires
lay_sum-at-requires c =
    let l = c in
    record {
      at_in_bounds = sum_room (lists (goal.at.lay_sum-at-requires l).At-loop-work) (heads (goal.at.lay_sum-at-requires l).At-loop-work) (plain (goal.at.lay_sum-at-requires l).At-loop-work) (flat (merged_stops (lists (goal.at.lay_sum-at-requires l).At-loop-work) at_first)) l.args.work.now l.loop-work.work l.loop-work.at l.loop-work.invariant.0 l.requires.at_first_in_bounds (more (goal.at.lay_sum-at-requires c).Else-are_over) (made (goal.at.lay_sum-at-requires c).After-pass_warp-warped) (is (goal.at.lay_sum-at-requires c).After-pass_warp-warped);
      at_bound = omega (arith, l.loop-work.invariant.0.within, l.loop-work.invariant.0.size, l.well_formed.1.1.1.1.1.1.1.0.1);
    }

pub loop-work-smaller : goal.loop-work-smaller
loop-work-smaller c =
    let l = c in
    subst (λ (t : Turned). turns_left (lists (goal.at.loop-work-smaller l).At-loop-work) t.heads < turns_left (lists (goal.at.loop-work-smaller l).At-loop-work) (heads (goal.at.loop-work-smaller l).At-loop-work)) (sym (is (goal.at.loop-work-smaller c).After-pass_warp-warped)) (left-falls (lists (goal.at.loop-work-smaller l).At-loop-work) (heads (goal.at.loop-work-smaller l).At-loop-work) (plain (goal.at.loop-work-smaller l).At-loop-work) (more (goal.at.loop-work-smaller c).Else-are_over))

pub loop-work-preserved : goal.loop-work-preserved
loop-work-preserved c =
    let l = c in
    let laid = c.lay_sum-at in (
      laid-turn (lists (goal.at.loop-work-preserved l).At-loop-work) (heads (goal.at.loop-work-preserved l).At-loop-work) (plain (goal.at.loop-work-preserved l).At-loop-work) (flat (merged_stops (lists (goal.at.loop-work-preserved l).At-loop-work) at_first)) l.args.work.now l.loop-work.work l.loop-work.at l.loop-work.invariant.0 l.requires.at_first_in_bounds (more (goal.at.loop-work-preserved c).Else-are_over) (made (goal.at.loop-work-preserved c).After-pass_warp-warped) (is (goal.at.loop-work-preserved c).After-pass_warp-warped) laid.result laid.new.work laid.ensures.value laid.ensures.work_after,
      subst (λ (t : Turned). Fit (lists (goal.at.loop-work-preserved l).At-loop-work) t.heads) (sym (is (goal.at.loop-work-preserved c).After-pass_warp-warped)) (turned-fit (lists (goal.at.loop-work-preserved l).At-loop-work) (heads (goal.at.loop-work-preserved l).At-loop-work) (plain (goal.at.loop-work-preserved l).At-loop-work) (more (goal.at.loop-work-preserved c).Else-are_over) l.loop-work.invariant.1),
      record {
        next = c.pass_warp-warped.ensures.next_is;
        seconds = c.pass_warp-warped.ensures.seconds_is;
        stop = c.pass_stop-stopped.ensures.head_is;
        delay = c.pass_delay-delayed.ensures.head_is;
        warp = c.pass_warp-warped.ensures.head_is;
      },
    )
