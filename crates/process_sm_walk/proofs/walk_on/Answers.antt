-- `process_sm_walk::walk_on` lays each list by itself where no warp opens, and else takes change after change. Assumes nothing.
use Rattle.std.proofs.Common.{◌+◌, ◌<◌, ◌≤◌, max, length, sym, refl, ◌∙◌, arith}
use native.Mathlib.Nat.{max-le}
use Rattle.process_sm_walk.specs.Chart.{written_by}
use Rattle.process_sm_walk.specs.Columns.{Columns, columns}
use Rattle.process_sm_walk.proofs.OneChange.{SameLengths, same_refl, same-written, same_then}
use Rattle.process_sm_walk.proofs.WalkTurns.{Going, ahead, room-turn, turn, room-end, ended}
use Rattle.process_sm_walk.proofs.WalkedByLists.{room-tempos, room-stops, by-lists}
use Rattle.process_sm_walk.proofs.walk_on.Goals as goal
use Rattle.process_sm_walk.proofs.walk_on.Goals.{After-advance-places, After-slice_known-in-None-6-1, At-loop-ending, Start}

-- the columns as they were lent
abbrev rooms : Start → Columns
rooms s = columns s.args.out_tempo_beats.now s.args.out_tempo_values.now s.args.out_stop_beats.now s.args.out_stop_values.now s.args.out_warp_beats.now s.args.out_warp_lengths.now

pub lay_on_rows-tempos-requires : goal.lay_on_rows-tempos-requires
lay_on_rows-tempos-requires c =
    let s = c in
    record {
      beats_len = s.requires.chart.tempos;
      fact = room-tempos s.args.tempo_beats.now s.args.tempo_values.now s.args.stop_beats.now s.args.stop_values.now s.requires.chart s.args.first s.args.opening s.args.so_far s.requires.reached s.requires.written_within (rooms (goal.at.lay_on_rows-tempos-requires s).Start) s.requires.fact;
    }

pub lay_on_rows-stops-requires : goal.lay_on_rows-stops-requires
lay_on_rows-stops-requires c =
    let s = c in
    record {
      beats_len = s.requires.chart.stops;
      fact = room-stops s.args.tempo_beats.now s.args.tempo_values.now s.args.stop_beats.now s.args.stop_values.now s.requires.chart s.args.first s.args.opening s.args.so_far s.requires.reached s.requires.written_within (rooms (goal.at.lay_on_rows-stops-requires s).Start) s.requires.fact;
    }

pub returns-then-no_warp : goal.returns-then-no_warp
returns-then-no_warp c =
    let s = c in
    let tempos = c.lay_on_rows-tempos in
    let stops = c.lay_on_rows-stops in
    let given = by-lists s.args.tempo_beats.now s.args.tempo_values.now s.args.stop_beats.now s.args.stop_values.now s.requires.chart s.args.first s.args.opening s.args.so_far (c.no_warp.ensures c.if-no_warp.true) tempos.result stops.result tempos.ensures.value stops.ensures.value
    s.args.out_tempo_beats.now s.args.out_tempo_values.now s.args.out_stop_beats.now s.args.out_stop_values.now s.args.out_warp_beats.now s.args.out_warp_lengths.now
    tempos.ensures.out_beats_after tempos.ensures.out_values_after stops.ensures.out_beats_after stops.ensures.out_values_after in
    record {
      result_value = given.0;
      rooms_value = given.1;
    }

abbrev begun : At-loop-ending → Start
begun c = (goal.at.At-loop-ending c).Start

-- the columns as a turn finds them
abbrev standing : At-loop-ending → Columns
standing at = columns at.loop-ending.out_tempo_beats at.loop-ending.out_tempo_values at.loop-ending.out_stop_beats at.loop-ending.out_stop_values at.loop-ending.out_warp_beats at.loop-ending.out_warp_lengths

pub loop-ending-init : goal.loop-ending-init
loop-ending-init c =
    let s = c in
    record { reached = s.requires.reached; within = s.requires.written_within; lengths = same_refl (rooms (goal.at.loop-ending-init s).Start); same_counts = refl; same_columns = refl }

pub next_change-next-requires : goal.next_change-next-requires
next_change-next-requires c = let s = begun c in
    record {
      tempo_beats_len = s.requires.chart.tempos;
      stop_beats_len = s.requires.chart.stops;
    }

pub take_change-standing-requires : goal.take_change-standing-requires
take_change-standing-requires c =
    let next = c in
    let at = c in
    let s = begun (goal.at.take_change-standing-requires at).At-loop-ending in
    room-turn s.args.tempo_beats.now s.args.tempo_values.now s.args.stop_beats.now s.args.stop_values.now s.requires.chart (rooms s) s.requires.fact s.args.first s.args.opening s.args.so_far (standing (goal.at.take_change-standing-requires at).At-loop-ending) at.loop-ending.places at.loop-ending.state at.loop-ending.counts at.loop-ending.invariant next.in-Some.change (sym c.next_change-next.ensures ∙ next.in-Some.is)

pub advance-places-requires : goal.advance-places-requires
advance-places-requires c =
    let at = c in
    let s = begun (goal.at.advance-places-requires at).At-loop-ending in
    let tempos = length s.args.tempo_beats.now in
    let a = at.loop-ending.invariant.reached.tempo in
    let b = at.loop-ending.invariant.reached.stop in
    let k : max tempos 1 ≤ tempos + 1 = max-le {a = tempos} {b = 1} {k = tempos + 1} (omega arith) (omega arith) in
    let g = s.well_formed in
    omega (arith, a, b, k, g.0.1, g.1.1.0.1)

turned : (c : After-advance-places) →
    let at = c in
    let s = begun (goal.at.After-advance-places at).At-loop-ending in
    let taken = c.take_change-standing in
    (Going s.args.tempo_beats.now s.args.tempo_values.now s.args.stop_beats.now s.args.stop_values.now (rooms s) s.args.first s.args.opening s.args.so_far (columns taken.new.tempo_beats taken.new.tempo_values taken.new.stop_beats taken.new.stop_values taken.new.warp_beats taken.new.warp_lengths) c.advance-places.result taken.result.state taken.result.counts)
    × (ahead s.args.tempo_beats.now s.args.stop_beats.now c.advance-places.result < ahead s.args.tempo_beats.now s.args.stop_beats.now at.loop-ending.places)
turned c =
    let next = c in
    let at = c in
    let s = begun (goal.at.After-advance-places at).At-loop-ending in
    let taken = c.take_change-standing in
    turn s.args.tempo_beats.now s.args.tempo_values.now s.args.stop_beats.now s.args.stop_values.now s.requires.chart (rooms s) s.requires.fact s.args.first s.args.opening s.args.so_far (standing (goal.at.After-advance-places at).At-loop-ending) at.loop-ending.places at.loop-ending.state at.loop-ending.counts at.loop-ending.invariant next.in-Some.change (sym c.next_change-next.ensures ∙ next.in-Some.is)
    taken.result (columns taken.new.tempo_beats taken.new.tempo_values taken.new.stop_beats taken.new.stop_values taken.new.warp_beats taken.new.warp_lengths) c.advance-places.result taken.ensures.value taken.ensures.rooms_value c.advance-places.ensures

pub write-requires : goal.write-requires
write-requires c =
    let finish = c.finish-ending in
    let at = c in
    let s = begun (goal.at.write-requires at).At-loop-ending in
    room-end s.args.tempo_beats.now s.args.tempo_values.now s.args.stop_beats.now s.args.stop_values.now s.requires.chart (rooms s) s.requires.fact s.args.first s.args.opening s.args.so_far (standing (goal.at.write-requires at).At-loop-ending) at.loop-ending.places at.loop-ending.state at.loop-ending.counts at.loop-ending.invariant (sym c.next_change-next.ensures ∙ c.in-None.is) finish.result finish.ensures

ended-lengths : (c : After-slice_known-in-None-6-1) → SameLengths (columns c.write.new.tempo_beats c.write.new.tempo_values c.write.new.stop_beats c.write.new.stop_values c.write.new.warp_beats c.write.new.warp_lengths) (rooms (begun (goal.at.After-slice_known-in-None-6-1 c).At-loop-ending))
ended-lengths c =
    let write = c.write in
    let at = c in
    same_then (columns write.new.tempo_beats write.new.tempo_values write.new.stop_beats write.new.stop_values write.new.warp_beats write.new.warp_lengths) (standing (goal.at.After-slice_known-in-None-6-1 at).At-loop-ending) (rooms (begun (goal.at.After-slice_known-in-None-6-1 at).At-loop-ending))
    (same-written at.loop-ending.counts (written_by c.finish-ending.result) (columns write.new.tempo_beats write.new.tempo_values write.new.stop_beats write.new.stop_values write.new.warp_beats write.new.warp_lengths) (standing (goal.at.After-slice_known-in-None-6-1 at).At-loop-ending) write.ensures.rooms_value) at.loop-ending.invariant.lengths

pub returns-in-None : goal.returns-in-None
returns-in-None c =
    let write = c.write in
    let finish = c.finish-ending in
    let at = c in
    let s = begun (goal.at.returns-in-None at).At-loop-ending in
    let given = ended s.args.tempo_beats.now s.args.tempo_values.now s.args.stop_beats.now s.args.stop_values.now s.requires.chart (rooms s) s.requires.fact s.args.first s.args.opening s.args.so_far (standing (goal.at.returns-in-None at).At-loop-ending) at.loop-ending.places at.loop-ending.state at.loop-ending.counts at.loop-ending.invariant (sym c.next_change-next.ensures ∙ c.in-None.is) finish.result finish.ensures
    write.result (columns write.new.tempo_beats write.new.tempo_values write.new.stop_beats write.new.stop_values write.new.warp_beats write.new.warp_lengths) write.ensures.value write.ensures.rooms_value in
    record {
      result_value = given.0;
      rooms_value = given.1;
    }

pub shape_of-out_tempo_beats-in-None : goal.shape_of-out_tempo_beats-in-None
shape_of-out_tempo_beats-in-None c = (ended-lengths c).tempo_beats

pub shape_of-out_tempo_values-in-None : goal.shape_of-out_tempo_values-in-None
shape_of-out_tempo_values-in-None c = (ended-lengths c).tempo_values

pub shape_of-out_stop_beats-in-None : goal.shape_of-out_stop_beats-in-None
shape_of-out_stop_beats-in-None c = (ended-lengths c).stop_beats

pub shape_of-out_stop_values-in-None : goal.shape_of-out_stop_values-in-None
shape_of-out_stop_values-in-None c = (ended-lengths c).stop_values

pub shape_of-out_warp_beats-in-None : goal.shape_of-out_warp_beats-in-None
shape_of-out_warp_beats-in-None c = (ended-lengths c).warp_beats

pub shape_of-out_warp_lengths-in-None : goal.shape_of-out_warp_lengths-in-None
shape_of-out_warp_lengths-in-None c = (ended-lengths c).warp_lengths

pub loop-ending-smaller : goal.loop-ending-smaller
loop-ending-smaller c = (turned c).1

pub loop-ending-preserved : goal.loop-ending-preserved
loop-ending-preserved c = (turned c).0
