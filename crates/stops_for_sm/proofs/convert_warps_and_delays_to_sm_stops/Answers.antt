-- `stops_for_sm::convert_warps_and_delays_to_sm_stops` ends in its one outcome. Assumes nothing.
use Rattle.std.proofs.Common.{length, sym, ◌∙◌, subst, arith, leb-true}
use borrow.Author.Tests.{not-true, not-false}
use Rattle.stops_for_sm.specs.Merging.{Sources, sources, merged_stops, at_first}
use Rattle.stops_for_sm.specs.Filling.{StopsFilled}
use Rattle.stops_for_sm.specs.declared.Filled.{Filled}
use Rattle.stops_for_sm.proofs.TurnByTurn.{flat-length}
use Rattle.stops_for_sm.proofs.TakenSources.{sources-taken}
use Rattle.stops_for_sm.proofs.OneFilling.{refused_by_lists, callers_own, no-tempo, no_room, laid-whole}
use Rattle.stops_for_sm.proofs.convert_warps_and_delays_to_sm_stops.Goals as goal

pub returns-then-number-ne-TAKEN : goal.returns-then-number-ne-TAKEN
returns-then-number-ne-TAKEN c =
    let a = c.args in
    let s : Sources = sources a.tempo_beats.now a.tempo_values.now a.stops.now a.delay_beats.now a.delay_values.now a.warp_beats.now a.warp_lengths.now in
    let old = a.work.now in
    subst (λ (r : Filled). StopsFilled s r old old) (sym c.refused.ensures) (refused_by_lists s old c.lists_number-number.result c.lists_number-number.ensures c.if-number-ne-TAKEN.true)

pub returns-then-is_own : goal.returns-then-is_own
returns-then-is_own c =
    let a = c.args in
    let s : Sources = sources a.tempo_beats.now a.tempo_values.now a.stops.now a.delay_beats.now a.delay_values.now a.warp_beats.now a.warp_lengths.now in
    let old = a.work.now in
    callers_own s old (sym c.lists_number-number.ensures ∙ c.if-number-ne-TAKEN.false) (sym c.is_own.ensures ∙ c.if-is_own.true)

pub returns-then-lacks_tempo : goal.returns-then-lacks_tempo
returns-then-lacks_tempo c =
    let a = c.args in
    let s : Sources = sources a.tempo_beats.now a.tempo_values.now a.stops.now a.delay_beats.now a.delay_values.now a.warp_beats.now a.warp_lengths.now in
    let old = a.work.now in
    subst (λ (r : Filled). StopsFilled s r old old) (sym c.refused-then-lacks_tempo.ensures) (no-tempo s old (sym c.lists_number-number.ensures ∙ c.if-number-ne-TAKEN.false) (sym c.is_own.ensures ∙ c.if-is_own.false) (sym c.lacks_tempo.ensures ∙ c.if-lacks_tempo.true))

pub has_room-requires : goal.has_room-requires
has_room-requires c =
    let a = c.args in
    let s : Sources = sources a.tempo_beats.now a.tempo_values.now a.stops.now a.delay_beats.now a.delay_values.now a.warp_beats.now a.warp_lengths.now in
    let old = a.work.now in
    let t = sources-taken s (length old) (sym c.lists_number-number.ensures ∙ c.if-number-ne-TAKEN.false) in
    record {
      fact = t.plain;
      stops_len_bound = (t.stops, t.delays, t.warps);
    }

pub returns-then-not-has_room : goal.returns-then-not-has_room
returns-then-not-has_room c =
    let a = c.args in
    let s : Sources = sources a.tempo_beats.now a.tempo_values.now a.stops.now a.delay_beats.now a.delay_values.now a.warp_beats.now a.warp_lengths.now in
    let old = a.work.now in
    subst (λ (r : Filled). StopsFilled s r old old) (sym c.refused-then-not-has_room.ensures) (no_room s old (sym c.lists_number-number.ensures ∙ c.if-number-ne-TAKEN.false) (sym c.is_own.ensures ∙ c.if-is_own.false) (sym c.lacks_tempo.ensures ∙ c.if-lacks_tempo.false) (sym c.has_room.ensures ∙ not-true c.has_room.result c.if-not-has_room.true-raw))

pub lay_stops-size-requires : goal.lay_stops-size-requires
lay_stops-size-requires c =
    let a = c.args in
    let s : Sources = sources a.tempo_beats.now a.tempo_values.now a.stops.now a.delay_beats.now a.delay_values.now a.warp_beats.now a.warp_lengths.now in
    let old = a.work.now in
    let t = sources-taken s (length old) (sym c.lists_number-number.ensures ∙ c.if-number-ne-TAKEN.false) in
    let fits = leb-true (length (merged_stops s at_first)) _ (sym c.has_room.ensures ∙ not-false c.has_room.result c.if-not-has_room.false-raw) in
    record {
      fact = t.plain;
      at_first_in_bounds = omega (arith, fits, flat-length (merged_stops s at_first));
    }

pub returns : goal.returns
returns c =
    let a = c.args in
    let s : Sources = sources a.tempo_beats.now a.tempo_values.now a.stops.now a.delay_beats.now a.delay_values.now a.warp_beats.now a.warp_lengths.now in
    let old = a.work.now in
    laid-whole s old (sym c.lists_number-number.ensures ∙ c.if-number-ne-TAKEN.false) (sym c.is_own.ensures ∙ c.if-is_own.false) (sym c.lacks_tempo.ensures ∙ c.if-lacks_tempo.false) c.lay_stops-size.result c.lay_stops-size.new.work (sym c.has_room.ensures ∙ not-false c.has_room.result c.if-not-has_room.false-raw) c.lay_stops-size.ensures.result_value c.lay_stops-size.ensures.work_after
