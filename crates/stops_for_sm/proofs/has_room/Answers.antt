-- `stops_for_sm::has_room` lays the sums elsewhere, where it must, and counts them. Assumes nothing.
use Rattle.ieee.specs.Constants.{plus_zero}
use Rattle.stops_for_sm.proofs.TurnByTurn.{at_most_left, flat-length}
use Rattle.stops_for_sm.specs.Merging.{Sources, sources, merged_stops, at_first}
use Rattle.std.proofs.Common.{◌≡◌, ℕ, ◌/◌, leb, length, sym, ap, arith, le-leb}
use lib.ListN.{length-replicate}
use Rattle.stops_for_sm.proofs.has_room.Goals as goal

pub returns-then-stops-delay_beats : goal.returns-then-stops-delay_beats
returns-then-stops-delay_beats c =
    let a = c.args in
    let s : Sources = sources a.tempo_beats.now a.tempo_values.now a.stops.now a.delay_beats.now a.delay_values.now a.warp_beats.now a.warp_lengths.now in
    sym (le-leb (length (merged_stops s at_first)) a.room (omega (arith, at_most_left s at_first, c.if-stops-delay_beats.true)))

pub lay_stops-size-requires : goal.lay_stops-size-requires
lay_stops-size-requires c =
    let a = c.args in
    let s : Sources = sources a.tempo_beats.now a.tempo_values.now a.stops.now a.delay_beats.now a.delay_values.now a.warp_beats.now a.warp_lengths.now in
    record {
      fact = c.requires.fact;
      at_first_in_bounds = omega (arith, at_most_left s at_first, flat-length (merged_stops s at_first), c.requires.stops_len_bound.0, c.requires.stops_len_bound.1, c.requires.stops_len_bound.2, length-replicate 6144 plus_zero);
    }

pub returns : goal.returns
returns c =
    let a = c.args in
    let s : Sources = sources a.tempo_beats.now a.tempo_values.now a.stops.now a.delay_beats.now a.delay_values.now a.warp_beats.now a.warp_lengths.now in
    let half : c.lay_stops-size.result / 2 ≡ length (merged_stops s at_first) = omega (arith, c.lay_stops-size.ensures.result_value, flat-length (merged_stops s at_first)) in
    ap (λ (n : ℕ). leb n a.room) half
