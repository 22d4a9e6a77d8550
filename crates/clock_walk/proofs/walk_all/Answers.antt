-- `clock_walk::walk_all` walks event by event, to where nothing is found. Assumes nothing.
use Rattle.std.proofs.Common.{◌≡◌, ◌<◌, sym, ap, ◌∙◌, subst, w32, SFits, to_z, of_z, rules}
use lib.Ieee.{Float}
use Rattle.chart.specs.Timing.{Timing, timing}
use Rattle.chart.specs.declared.State.{State}
use Rattle.clock_walk.specs.Events.{ahead}
use Rattle.clock_walk.specs.Passing.{passing}
use Rattle.clock_walk.specs.Course.{is_found, past_found, onward, events_left}
use Rattle.clock_walk.specs.Heads.{ahead_of}
use Rattle.clock_walk.specs.EndMark.{greater_row, end_mark}
use Rattle.rows.proofs.BackFromBits.{back}
use Rattle.clock_walk.proofs.EventByEvent.{left-falls, moves}
use Rattle.clock_walk.proofs.HeadsAhead.{ahead_by_heads, passed-heads}
use Rattle.clock_walk.proofs.WholeCourse.{mark_from, mark_on, mark-end}
use Rattle.clock_walk.proofs.walk_all.Goals as goal
use Rattle.clock_walk.proofs.walk_all.Goals.{After-find_ahead-found, After-pass_event-state}

pub loop-next-init : goal.loop-next-init
loop-next-init c =
    let a = c.args in
    let t : Timing = timing a.tempo_beats.now a.tempo_values.now a.stop_beats.now a.stop_values.now a.delay_beats.now a.delay_values.now a.warp_beats.now a.warp_lengths.now in
    (rw (back a.start.row (record { sfits = c.struct_told-1.given.1.1.1.1.0.1 })), c.heads_of-heads.ensures)

-- what is found by the heads is what is ahead
is-ahead : (c : After-find_ahead-found) →
    let a = c.args in
    let t : Timing = timing a.tempo_beats.now a.tempo_values.now a.stop_beats.now a.stop_values.now a.delay_beats.now a.delay_values.now a.warp_beats.now a.warp_lengths.now in
    c.find_ahead-found.result ≡ ahead t c.loop-next.state
is-ahead c =
    let a = c.args in
    let t : Timing = timing a.tempo_beats.now a.tempo_values.now a.stop_beats.now a.stop_values.now a.delay_beats.now a.delay_values.now a.warp_beats.now a.warp_lengths.now in
    let l = c.loop-next in
    c.find_ahead-found.ensures ∙ ap ahead_of l.invariant.1 ∙ ahead_by_heads t l.state

pub returns-in_default : goal.returns-in_default
unfolding end_mark
returns-in_default c =
    let a = c.args in
    let t : Timing = timing a.tempo_beats.now a.tempo_values.now a.stop_beats.now a.stop_values.now a.delay_beats.now a.delay_values.now a.warp_beats.now a.warp_lengths.now in
    let early = c.early_tempo-early in
    let l = c.loop-next in
    sym (mark-end early.result t l.state (to_z w32 l.greatest-bits) (sym (is-ahead (goal.at.returns-in_default c).After-find_ahead-found) ∙ c.in_default.is))
    ∙ l.invariant.0
    ∙ ap (λ (x : Float). mark_from x t a.start a.start.row) early.ensures

pub pass_event-state-requires : goal.pass_event-state-requires
pass_event-state-requires c =
    let s = c in
    let a = s.args in
    let t : Timing = timing a.tempo_beats.now a.tempo_values.now a.stop_beats.now a.stop_values.now a.delay_beats.now a.delay_values.now a.warp_beats.now a.warp_lengths.now in
    let g = s.well_formed in
    moves t c.loop-next.state c.in-Some.next (sym (is-ahead (goal.at.pass_event-state-requires c).After-find_ahead-found) ∙ c.in-Some.is) g.1.0.1 g.1.1.1.0.1 g.1.1.1.1.1.0.1 g.1.1.1.1.1.1.1.0.1

-- the event that is found is passed
is-passed : (c : After-pass_event-state) →
    let a = c.args in
    let t : Timing = timing a.tempo_beats.now a.tempo_values.now a.stop_beats.now a.stop_values.now a.delay_beats.now a.delay_values.now a.warp_beats.now a.warp_lengths.now in
    c.pass_event-state.result ≡ passing c.early_tempo-early.result t c.loop-next.state c.in-Some.next
is-passed c =
    let n = c.in-Some.next in
    rw (c.pass_event-state.ensures, c.number_of-number.ensures, rw (back n.row (record { sfits = c.struct_told-in-loop-next-1.given.0.1 })) at c.time_at-time.ensures)

moved : (c : After-pass_event-state) →
    let a = c.args in
    let t : Timing = timing a.tempo_beats.now a.tempo_values.now a.stop_beats.now a.stop_values.now a.delay_beats.now a.delay_values.now a.warp_beats.now a.warp_lengths.now in
    c.pass_event-state.result ≡ onward c.early_tempo-early.result t c.loop-next.state
moved c =
    let a = c.args in
    let t : Timing = timing a.tempo_beats.now a.tempo_values.now a.stop_beats.now a.stop_values.now a.delay_beats.now a.delay_values.now a.warp_beats.now a.warp_lengths.now in
    let s = c.loop-next.state in
    is-passed c ∙ sym (ap (past_found c.early_tempo-early.result t s) (sym (is-ahead (goal.at.After-pass_event-state c).After-find_ahead-found) ∙ c.in-Some.is))

pub loop-next-smaller : goal.loop-next-smaller
loop-next-smaller c =
    let a = c.args in
    let t : Timing = timing a.tempo_beats.now a.tempo_values.now a.stop_beats.now a.stop_values.now a.delay_beats.now a.delay_values.now a.warp_beats.now a.warp_lengths.now in
    let s = c.loop-next.state in
    let is : ahead t s ≡ _ = sym (is-ahead (goal.at.loop-next-smaller c).After-find_ahead-found) ∙ c.in-Some.is in
    subst (λ (x : State). events_left t x < events_left t s) (sym (moved (goal.at.loop-next-smaller c).After-pass_event-state)) (left-falls c.early_tempo-early.result t s (ap is_found is))

pub loop-next-preserved : goal.loop-next-preserved
loop-next-preserved c =
    let a = c.args in
    let t : Timing = timing a.tempo_beats.now a.tempo_values.now a.stop_beats.now a.stop_values.now a.delay_beats.now a.delay_values.now a.warp_beats.now a.warp_lengths.now in
    let l = c.loop-next in
    let early = c.early_tempo-early.result in
    let n = c.in-Some.next in
    let is : ahead t l.state ≡ _ = sym (is-ahead (goal.at.loop-next-preserved c).After-find_ahead-found) ∙ c.in-Some.is in
    let f : SFits w32 n.row = record { sfits = c.struct_told-in-loop-next-2-1.given.0.1 } in
    let g : SFits w32 c.greater_of-greatest.result = search rules in
    let most : to_z w32 (of_z w32 c.greater_of-greatest.result) ≡ greater_row (to_z w32 l.greatest-bits) n.row = back c.greater_of-greatest.result g ∙ c.greater_of-greatest.ensures ∙ ap (greater_row (to_z w32 l.greatest-bits)) (back n.row f) in (
      ap (mark_from early t c.pass_event-state.result) most
          ∙ ap (λ (x : State). mark_from early t x (greater_row (to_z w32 l.greatest-bits) n.row)) (moved (goal.at.loop-next-preserved c).After-pass_event-state)
          ∙ sym (mark_on early t l.state (to_z w32 l.greatest-bits) n is)
          ∙ l.invariant.0,
      rw (c.heads_after-heads.ensures, l.invariant.1, is-passed (goal.at.loop-next-preserved c).After-pass_event-state) (passed-heads early t l.state n),
    )
