-- `clock_walk::walk_to` walks event by event. Assumes nothing.
use Rattle.std.proofs.Common.{◌≡◌, ◌+◌, ◌^◌, ◌<◌, false, ℤ, sym, refl, ap, ◌∙◌, arith, w32, to_z, of_z, Option, Some, None}
use lib.Ieee.{Float}
use Rattle.ieee.specs.Constants.{plus_zero}
use Rattle.chart.specs.Timing.{Timing, timing}
use Rattle.clock_walk.specs.Events.{ahead, due_of, due}
use Rattle.clock_walk.specs.Passing.{event_passed, passing}
use Rattle.clock_walk.specs.inside.CanMove.{CanMove}
use Rattle.clock_walk.specs.Course.{events_left}
use Rattle.clock_walk.specs.Walk.{is_passes, is_due, ended, walk_on, walk}
use Rattle.clock_walk.specs.Heads.{heads_of, heads_after, ahead_of}
use Rattle.chart.specs.declared.State.{State}
use Rattle.clock_walk.specs.declared.Next.{Next}
use Rattle.clock_walk.specs.declared.Heads.{Heads}
use Rattle.clock_walk.specs.declared.Event.TheVariants.{Tempo}
use Rattle.rows.proofs.BackFromBits.{back}
use Rattle.clock_walk.proofs.EventByEvent.{moves, count_fits}
use Rattle.clock_walk.proofs.AllWalks.{Going, turn, pass-end}
use Rattle.clock_walk.proofs.ClockTest.{says_due, due-found, due-passed}
use Rattle.clock_walk.proofs.HeadsAhead.{ahead_by_heads, passed-heads}
use Rattle.clock_walk.proofs.walk_to.Goals as goal
use Rattle.clock_walk.proofs.walk_to.Goals.{After-pass_event-state, After-pass_event-state-in-loop-tempo, After-struct_told-1, At-loop-tempo, After-struct_told-in-loop-tempo-1}

-- ---- at the head of the loop: what is due by the heads that are kept, and the loop after an event that is
abbrev timing_at : At-loop-tempo → Timing
timing_at c =
    let a = c.args in
    timing a.tempo_beats.now a.tempo_values.now a.stop_beats.now a.stop_values.now a.delay_beats.now a.delay_values.now a.warp_beats.now a.warp_lengths.now

abbrev asked_at : At-loop-tempo → ℤ
asked_at c = to_z w32 (of_z w32 c.args.asked)

abbrev early_at : At-loop-tempo → Float
early_at c = c.early_tempo-early.result

abbrev start_at : At-loop-tempo → State
start_at c = c.args.start

abbrev heads_at : At-loop-tempo → State → Heads
heads_at c s = let t = timing_at c in heads_of t.tempo_beats t.stop_beats t.delay_beats t.warp_beats s

due-here : (c : At-loop-tempo) (d : Option Next) → due_of (asked_at c) (ahead_of c.loop-tempo.heads) ≡ d → due (timing_at c) (asked_at c) c.loop-tempo.state ≡ d
due-here c d e =
    let r = asked_at c in
    sym (ap (λ (h : Heads). due_of r (ahead_of h)) c.loop-tempo.invariant.1 ∙ ap (due_of r) (ahead_by_heads (timing_at c) c.loop-tempo.state)) ∙ e

module _ (c : At-loop-tempo) (n : Next) (is : due (timing_at c) (asked_at c) c.loop-tempo.state ≡ Some n) where
  can-pass : CanMove c.loop-tempo.state n.kind
  can-pass =
      let t = timing_at c in
      let g = c.well_formed in
      moves t c.loop-tempo.state n (due-found (asked_at c) (ahead t c.loop-tempo.state) n is)
      g.1.1.0.1 g.1.1.1.1.0.1 g.1.1.1.1.1.1.0.1 g.1.1.1.1.1.1.1.1.0.1

  module _ (s : State) (passed : s ≡ passing (early_at c) (timing_at c) c.loop-tempo.state n) where
    moved : Going (early_at c) (timing_at c) (is_due (timing_at c) (asked_at c)) (says_due (timing_at c) (asked_at c)) (start_at c) s (c.loop-tempo.passed + 1) × (events_left (timing_at c) s < events_left (timing_at c) c.loop-tempo.state)
    moved =
        let t = timing_at c in
        let r = asked_at c in
        turn (early_at c) t (is_due t r) (says_due t r) (start_at c) c.loop-tempo.state c.loop-tempo.passed s (ap is_passes is) (passed ∙ sym (due-passed (early_at c) t r c.loop-tempo.state n is)) c.loop-tempo.invariant.0

    heads-moved : let t = timing_at c in heads_after t.tempo_beats t.stop_beats t.delay_beats t.warp_beats c.loop-tempo.heads s n.kind ≡ heads_at c s
    heads-moved = rw (c.loop-tempo.invariant.1, passed) (passed-heads (early_at c) (timing_at c) c.loop-tempo.state n)

counted : (c : At-loop-tempo) → c.loop-tempo.passed + 1 < 2 ^ 64
counted c =
    let g = c.well_formed in
    let t = timing_at c in
    count_fits t (start_at c) c.loop-tempo.passed (events_left t c.loop-tempo.state) c.loop-tempo.invariant.0.few g.1.1.0.1 g.1.1.1.1.0.1 g.1.1.1.1.1.1.0.1 g.1.1.1.1.1.1.1.1.0.1

pub loop-tempo-init : goal.loop-tempo-init
loop-tempo-init c = (record { same = refl; few = omega arith }, c.heads_of-heads.ensures)

abbrev tempo_at : At-loop-tempo → Next
tempo_at c = record { row = c.loop-tempo.heads.tempo; kind = Tempo }

tempo-due : (c : After-struct_told-1) → let l = c in due (timing_at (goal.at.After-struct_told-1 l).At-loop-tempo) (asked_at (goal.at.After-struct_told-1 l).At-loop-tempo) l.loop-tempo.state ≡ Some (tempo_at (goal.at.After-struct_told-1 l).At-loop-tempo)
tempo-due c = due-here (goal.at.After-struct_told-1 c).At-loop-tempo _ (c.is_tempo_due.ensures c.if-is_tempo_due.true)

pub pass_event-state-requires : goal.pass_event-state-requires
pass_event-state-requires c = can-pass (goal.at.pass_event-state-requires c).At-loop-tempo (tempo_at (goal.at.pass_event-state-requires c).At-loop-tempo) (tempo-due (goal.at.pass_event-state-requires c).After-struct_told-1)

tempo-passed : (c : After-pass_event-state) → let l = c in c.pass_event-state.result ≡ passing (early_at (goal.at.After-pass_event-state l).At-loop-tempo) (timing_at (goal.at.After-pass_event-state l).At-loop-tempo) l.loop-tempo.state (tempo_at (goal.at.After-pass_event-state l).At-loop-tempo)
unfolding event_passed
tempo-passed c =
    let l = c in
    let there : ℤ → Next = λ z. record { row = z; kind = Tempo } in
    let row = back l.loop-tempo.heads.tempo (record { sfits = c.struct_told-1.given.1.0.1 }) in
    let is : c.pass_event-state.result ≡ event_passed l.loop-tempo.state (there (to_z w32 (of_z w32 l.loop-tempo.heads.tempo))) c.time_at-time.result plus_zero = c.pass_event-state.ensures in
    rw (is, row, rw row at c.time_at-time.ensures)

pub overflow_add-passed : goal.overflow_add-passed
overflow_add-passed c = record { fits = counted (goal.at.overflow_add-passed c).At-loop-tempo }

pub loop-tempo-smaller-then-is_tempo_due : goal.loop-tempo-smaller-then-is_tempo_due
loop-tempo-smaller-then-is_tempo_due c = let p = c in (moved (goal.at.loop-tempo-smaller-then-is_tempo_due c).At-loop-tempo (tempo_at (goal.at.loop-tempo-smaller-then-is_tempo_due c).At-loop-tempo) (tempo-due (goal.at.loop-tempo-smaller-then-is_tempo_due c).After-struct_told-1) p.pass_event-state.result (tempo-passed (goal.at.loop-tempo-smaller-then-is_tempo_due p).After-pass_event-state)).1

pub loop-tempo-preserved-then-is_tempo_due : goal.loop-tempo-preserved-then-is_tempo_due
loop-tempo-preserved-then-is_tempo_due c =
    let p = c in
    let l = c in (
      (moved (goal.at.loop-tempo-preserved-then-is_tempo_due l).At-loop-tempo (tempo_at (goal.at.loop-tempo-preserved-then-is_tempo_due l).At-loop-tempo) (tempo-due (goal.at.loop-tempo-preserved-then-is_tempo_due c).After-struct_told-1) p.pass_event-state.result (tempo-passed (goal.at.loop-tempo-preserved-then-is_tempo_due p).After-pass_event-state)).0,
      rw (back c.row_at.result (record { sfits = c.row_at.type_inv }), c.row_at.ensures) (heads-moved (goal.at.loop-tempo-preserved-then-is_tempo_due l).At-loop-tempo (tempo_at (goal.at.loop-tempo-preserved-then-is_tempo_due l).At-loop-tempo) (tempo-due (goal.at.loop-tempo-preserved-then-is_tempo_due c).After-struct_told-1) p.pass_event-state.result (tempo-passed (goal.at.loop-tempo-preserved-then-is_tempo_due p).After-pass_event-state)),
    )

pub returns-in_default : goal.returns-in_default
unfolding walk walk_on
returns-in_default c =
    let found = c in
    let l = c in
    let s = l in
    let t = timing_at (goal.at.returns-in_default l).At-loop-tempo in
    let r = asked_at (goal.at.returns-in_default l).At-loop-tempo in
    let early = l.early_tempo-early in
    let none : is_due t r l.loop-tempo.state ≡ false = ap is_passes (due-here (goal.at.returns-in_default l).At-loop-tempo None (sym found.find_due-found.ensures ∙ c.in_default.is)) in
    rw c.time_at-time-in_default.ensures
    (ap (ended early.result t r) (sym (pass-end early.result t (is_due t r) (says_due t r) l.loop-tempo.state l.loop-tempo.passed none) ∙ l.loop-tempo.invariant.0.same)
    ∙ ap (λ (z : ℤ). walk_on early.result t z (start_at (goal.at.returns-in_default l).At-loop-tempo) 0) (back s.args.asked s.ranges.asked)
    ∙ ap (λ (x : Float). walk_on x t s.args.asked (start_at (goal.at.returns-in_default l).At-loop-tempo) 0) early.ensures)

found-due : (c : After-struct_told-in-loop-tempo-1) → let l = c in due (timing_at (goal.at.After-struct_told-in-loop-tempo-1 l).At-loop-tempo) (asked_at (goal.at.After-struct_told-in-loop-tempo-1 l).At-loop-tempo) l.loop-tempo.state ≡ Some c.in-Some.next
found-due c = due-here (goal.at.After-struct_told-in-loop-tempo-1 c).At-loop-tempo _ (sym c.find_due-found.ensures ∙ c.in-Some.is)

pub pass_event-state-requires-in-loop-tempo : goal.pass_event-state-requires-in-loop-tempo
pass_event-state-requires-in-loop-tempo c = let f = c in can-pass (goal.at.pass_event-state-requires-in-loop-tempo f).At-loop-tempo f.in-Some.next (found-due (goal.at.pass_event-state-requires-in-loop-tempo f).After-struct_told-in-loop-tempo-1)

found_passed : (c : After-pass_event-state-in-loop-tempo) → let f = c in let l = f in c.pass_event-state-in-loop-tempo.result ≡ passing (early_at (goal.at.After-pass_event-state-in-loop-tempo l).At-loop-tempo) (timing_at (goal.at.After-pass_event-state-in-loop-tempo l).At-loop-tempo) l.loop-tempo.state f.in-Some.next
found_passed c =
    let n = c.in-Some.next in
    rw (c.pass_event-state-in-loop-tempo.ensures, c.number_of-number.ensures, rw (back n.row (record { sfits = c.struct_told-in-loop-tempo-1.given.0.1 })) at c.time_at-time-in-loop-tempo.ensures)

pub overflow_add-passed-in-loop-tempo : goal.overflow_add-passed-in-loop-tempo
overflow_add-passed-in-loop-tempo c = record { fits = counted (goal.at.overflow_add-passed-in-loop-tempo c).At-loop-tempo }

pub loop-tempo-smaller : goal.loop-tempo-smaller
loop-tempo-smaller c = let p = c in let f = c in (moved (goal.at.loop-tempo-smaller f).At-loop-tempo f.in-Some.next (found-due (goal.at.loop-tempo-smaller f).After-struct_told-in-loop-tempo-1) p.pass_event-state-in-loop-tempo.result (found_passed (goal.at.loop-tempo-smaller p).After-pass_event-state-in-loop-tempo)).1

pub loop-tempo-preserved : goal.loop-tempo-preserved
loop-tempo-preserved c =
    let p = c in
    let f = c in
    let l = f in (
      (moved (goal.at.loop-tempo-preserved l).At-loop-tempo f.in-Some.next (found-due (goal.at.loop-tempo-preserved f).After-struct_told-in-loop-tempo-1) p.pass_event-state-in-loop-tempo.result (found_passed (goal.at.loop-tempo-preserved p).After-pass_event-state-in-loop-tempo)).0,
      rw c.heads_after-heads.ensures (heads-moved (goal.at.loop-tempo-preserved l).At-loop-tempo f.in-Some.next (found-due (goal.at.loop-tempo-preserved f).After-struct_told-in-loop-tempo-1) p.pass_event-state-in-loop-tempo.result (found_passed (goal.at.loop-tempo-preserved p).After-pass_event-state-in-loop-tempo)),
    )
