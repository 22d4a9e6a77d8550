-- `clock_walk::walk_by` passes what is over by a time. Assumes nothing.
use Rattle.std.proofs.Common.{◌≡◌, ◌+◌, ◌^◌, ◌<◌, true, sym, refl, ap, ◌∙◌, arith, w32, to_z, of_z, Option, Some}
use lib.Ieee.{Float}
use Rattle.ieee.specs.Constants.{plus_zero}
use Rattle.chart.specs.Timing.{Timing, timing}
use Rattle.clock_walk.specs.Events.{ahead}
use Rattle.clock_walk.specs.Passing.{time_at, brings, event_passed, passing}
use Rattle.clock_walk.specs.inside.CanMove.{CanMove}
use Rattle.clock_walk.specs.Course.{past_found, events_left}
use Rattle.clock_walk.specs.ByTime.{still_runs, is_ahead_over}
use Rattle.clock_walk.specs.Heads.{heads_of, heads_after, ahead_of}
use Rattle.chart.specs.declared.State.{State}
use Rattle.clock_walk.specs.declared.Next.{Next}
use Rattle.clock_walk.specs.declared.Event.TheVariants.{Tempo}
use Rattle.rows.proofs.BackFromBits.{back}
use Rattle.clock_walk.proofs.EventByEvent.{moves, count_fits}
use Rattle.clock_walk.proofs.AllWalks.{Going, turn}
use Rattle.clock_walk.proofs.OverByATime.{says_over, nothing-ahead, not_come, still_running, come_and_over, walked_by}
use Rattle.clock_walk.proofs.HeadsAhead.{ahead_by_heads, passed-heads}
use Rattle.clock_walk.proofs.walk_by.Goals as goal
use Rattle.clock_walk.proofs.walk_by.Goals.{After-pass_event-state, After-pass_event-state-in-loop-tempo, After-still_runs, After-time_at-time-in-loop-tempo, At-loop-tempo, Else-still_runs, Then-is_tempo_over}

-- ---- at the head of the loop: what is ahead by the heads that are kept, and the loop after an event that is over
abbrev timing-of : At-loop-tempo → Timing
timing-of c =
    let a = c.args in
    timing a.tempo_beats.now a.tempo_values.now a.stop_beats.now a.stop_values.now a.delay_beats.now a.delay_values.now a.warp_beats.now a.warp_lengths.now

abbrev elapsed-of : At-loop-tempo → Float
elapsed-of c = c.args.elapsed

abbrev early-of : At-loop-tempo → Float
early-of c = c.args.early

ahead-here : (c : At-loop-tempo) (x : Option Next) → ahead_of c.loop-tempo.heads ≡ x → ahead (timing-of c) c.loop-tempo.state ≡ x
ahead-here c x e = sym (ap ahead_of c.loop-tempo.invariant.1 ∙ ahead_by_heads (timing-of c) c.loop-tempo.state) ∙ e

module _ (c : At-loop-tempo) (n : Next) (is : ahead (timing-of c) c.loop-tempo.state ≡ Some n) where
  can-pass : CanMove c.loop-tempo.state n.kind
  can-pass = let g = c.well_formed in moves (timing-of c) c.loop-tempo.state n is g.1.1.1.0.1 g.1.1.1.1.1.0.1 g.1.1.1.1.1.1.1.0.1 g.1.1.1.1.1.1.1.1.1.0.1

  module _ (s : State) (passed : s ≡ passing (early-of c) (timing-of c) c.loop-tempo.state n) where
    moved : is_ahead_over (elapsed-of c) (early-of c) (timing-of c) c.loop-tempo.state ≡ true →
        let t = timing-of c in
        Going (early-of c) t (is_ahead_over (elapsed-of c) (early-of c) t) (says_over (elapsed-of c) (early-of c) t) c.args.start s (c.loop-tempo.passed + 1) × (events_left t s < events_left t c.loop-tempo.state)
    moved over =
        let t = timing-of c in
        turn (early-of c) t (is_ahead_over (elapsed-of c) (early-of c) t) (says_over (elapsed-of c) (early-of c) t) c.args.start c.loop-tempo.state c.loop-tempo.passed s over
        (passed ∙ sym (ap (past_found (early-of c) t c.loop-tempo.state) is)) c.loop-tempo.invariant.0

    heads-moved : let t = timing-of c in heads_after t.tempo_beats t.stop_beats t.delay_beats t.warp_beats c.loop-tempo.heads s n.kind ≡ heads_of t.tempo_beats t.stop_beats t.delay_beats t.warp_beats s
    heads-moved = rw (c.loop-tempo.invariant.1, passed) (passed-heads (early-of c) (timing-of c) c.loop-tempo.state n)

counted : (c : At-loop-tempo) → c.loop-tempo.passed + 1 < 2 ^ 64
counted c =
    let g = c.well_formed in
    let t = timing-of c in
    count_fits t c.args.start c.loop-tempo.passed (events_left t c.loop-tempo.state) c.loop-tempo.invariant.0.few g.1.1.1.0.1 g.1.1.1.1.1.0.1 g.1.1.1.1.1.1.1.0.1 g.1.1.1.1.1.1.1.1.1.0.1

pub loop-tempo-init : goal.loop-tempo-init
loop-tempo-init c = (record { same = refl; few = omega arith }, c.heads_of-heads.ensures)

abbrev tempo-of : At-loop-tempo → Next
tempo-of c = record { row = c.loop-tempo.heads.tempo; kind = Tempo }

tempo-ahead : (c : Then-is_tempo_over) → let at = c in ahead (timing-of (goal.at.Then-is_tempo_over at).At-loop-tempo) at.loop-tempo.state ≡ Some (tempo-of (goal.at.Then-is_tempo_over at).At-loop-tempo)
tempo-ahead c = ahead-here (goal.at.Then-is_tempo_over c).At-loop-tempo _ (c.is_tempo_over.ensures c.if-is_tempo_over.true).0

tempo-over : (c : Then-is_tempo_over) → let at = c in is_ahead_over (elapsed-of (goal.at.Then-is_tempo_over at).At-loop-tempo) (early-of (goal.at.Then-is_tempo_over at).At-loop-tempo) (timing-of (goal.at.Then-is_tempo_over at).At-loop-tempo) at.loop-tempo.state ≡ true
unfolding still_runs
tempo-over c =
    let at = c in
    come_and_over (elapsed-of (goal.at.Then-is_tempo_over at).At-loop-tempo) (early-of (goal.at.Then-is_tempo_over at).At-loop-tempo) (timing-of (goal.at.Then-is_tempo_over at).At-loop-tempo) at.loop-tempo.state (tempo-of (goal.at.Then-is_tempo_over at).At-loop-tempo) (tempo-ahead c) (c.is_tempo_over.ensures c.if-is_tempo_over.true).1 refl

pub pass_event-state-requires : goal.pass_event-state-requires
pass_event-state-requires c = can-pass (goal.at.pass_event-state-requires c).At-loop-tempo (tempo-of (goal.at.pass_event-state-requires c).At-loop-tempo) (tempo-ahead (goal.at.pass_event-state-requires c).Then-is_tempo_over)

tempo-passed : (c : After-pass_event-state) → let at = c in c.pass_event-state.result ≡ passing (early-of (goal.at.After-pass_event-state at).At-loop-tempo) (timing-of (goal.at.After-pass_event-state at).At-loop-tempo) at.loop-tempo.state (tempo-of (goal.at.After-pass_event-state at).At-loop-tempo)
unfolding event_passed
tempo-passed c =
    let at = c in
    let there : Next = record { row = to_z w32 (of_z w32 at.loop-tempo.heads.tempo); kind = Tempo } in
    let row = back at.loop-tempo.heads.tempo (record { sfits = c.struct_told-1.given.1.0.1 }) in
    let is : c.pass_event-state.result ≡ event_passed at.loop-tempo.state there c.time_at-time.result plus_zero = c.pass_event-state.ensures in
    rw (is, row, rw row at c.time_at-time.ensures)

pub overflow_add-passed : goal.overflow_add-passed
overflow_add-passed c = record { fits = counted (goal.at.overflow_add-passed c).At-loop-tempo }

pub loop-tempo-smaller-then-is_tempo_over : goal.loop-tempo-smaller-then-is_tempo_over
loop-tempo-smaller-then-is_tempo_over c = let p = c in let over = c in (moved (goal.at.loop-tempo-smaller-then-is_tempo_over c).At-loop-tempo (tempo-of (goal.at.loop-tempo-smaller-then-is_tempo_over c).At-loop-tempo) (tempo-ahead (goal.at.loop-tempo-smaller-then-is_tempo_over over).Then-is_tempo_over) p.pass_event-state.result (tempo-passed (goal.at.loop-tempo-smaller-then-is_tempo_over p).After-pass_event-state) (tempo-over (goal.at.loop-tempo-smaller-then-is_tempo_over over).Then-is_tempo_over)).1

pub loop-tempo-preserved-then-is_tempo_over : goal.loop-tempo-preserved-then-is_tempo_over
loop-tempo-preserved-then-is_tempo_over c =
    let p = c in
    let over = c in
    let at = c in (
      (moved (goal.at.loop-tempo-preserved-then-is_tempo_over at).At-loop-tempo (tempo-of (goal.at.loop-tempo-preserved-then-is_tempo_over at).At-loop-tempo) (tempo-ahead (goal.at.loop-tempo-preserved-then-is_tempo_over over).Then-is_tempo_over) p.pass_event-state.result (tempo-passed (goal.at.loop-tempo-preserved-then-is_tempo_over p).After-pass_event-state) (tempo-over (goal.at.loop-tempo-preserved-then-is_tempo_over over).Then-is_tempo_over)).0,
      rw (back c.row_at.result (record { sfits = c.row_at.type_inv }), c.row_at.ensures) (heads-moved (goal.at.loop-tempo-preserved-then-is_tempo_over at).At-loop-tempo (tempo-of (goal.at.loop-tempo-preserved-then-is_tempo_over at).At-loop-tempo) (tempo-ahead (goal.at.loop-tempo-preserved-then-is_tempo_over over).Then-is_tempo_over) p.pass_event-state.result (tempo-passed (goal.at.loop-tempo-preserved-then-is_tempo_over p).After-pass_event-state)),
    )

pub returns-in_default : goal.returns-in_default
returns-in_default c =
    let at = c in
    let t = timing-of (goal.at.returns-in_default at).At-loop-tempo in
    walked_by (elapsed-of (goal.at.returns-in_default at).At-loop-tempo) (early-of (goal.at.returns-in_default at).At-loop-tempo) t at.args.start at.loop-tempo.state at.loop-tempo.passed _ _ at.loop-tempo.invariant.0
    (nothing-ahead (elapsed-of (goal.at.returns-in_default at).At-loop-tempo) (early-of (goal.at.returns-in_default at).At-loop-tempo) t at.loop-tempo.state (ahead-here (goal.at.returns-in_default at).At-loop-tempo _ (sym c.find_ahead-found.ensures ∙ c.in_default.is)))
    c.tempo_in_force-tempo.ensures

-- the time of what is found
comes-at : (c : After-time_at-time-in-loop-tempo) →
    let at = c in
    c.time_at-time-in-loop-tempo.result ≡ time_at (early-of (goal.at.After-time_at-time-in-loop-tempo at).At-loop-tempo) (timing-of (goal.at.After-time_at-time-in-loop-tempo at).At-loop-tempo).tempo_values at.loop-tempo.state c.in-Some.next.row
comes-at c =
    let n = c.in-Some.next in
    rw (back n.row (record { sfits = c.struct_told-in-loop-tempo-1.given.0.1 })) at c.time_at-time-in-loop-tempo.ensures

is_found : (c : After-time_at-time-in-loop-tempo) → let at = c in ahead (timing-of (goal.at.After-time_at-time-in-loop-tempo at).At-loop-tempo) at.loop-tempo.state ≡ Some c.in-Some.next
is_found c = ahead-here (goal.at.After-time_at-time-in-loop-tempo c).At-loop-tempo _ (sym c.find_ahead-found.ensures ∙ c.in-Some.is)

pub returns-then-elapsed-time : goal.returns-then-elapsed-time
returns-then-elapsed-time c =
    let timed = c in
    let at = timed in
    let t = timing-of (goal.at.returns-then-elapsed-time at).At-loop-tempo in
    walked_by (elapsed-of (goal.at.returns-then-elapsed-time at).At-loop-tempo) (early-of (goal.at.returns-then-elapsed-time at).At-loop-tempo) t at.args.start at.loop-tempo.state at.loop-tempo.passed _ _ at.loop-tempo.invariant.0
    (not_come (elapsed-of (goal.at.returns-then-elapsed-time at).At-loop-tempo) (early-of (goal.at.returns-then-elapsed-time at).At-loop-tempo) t at.loop-tempo.state _ (is_found (goal.at.returns-then-elapsed-time timed).After-time_at-time-in-loop-tempo) (rw (comes-at (goal.at.returns-then-elapsed-time timed).After-time_at-time-in-loop-tempo) at c.if-elapsed-time.true))
    c.tempo_in_force-tempo-then-elapsed-time.ensures

-- whether it still runs
runs : (c : After-still_runs) →
    let timed = c in
    let at = timed in
    let n = timed.in-Some.next in
    let t = timing-of (goal.at.After-still_runs at).At-loop-tempo in
    c.still_runs.result ≡ still_runs (elapsed-of (goal.at.After-still_runs at).At-loop-tempo) (time_at (early-of (goal.at.After-still_runs at).At-loop-tempo) t.tempo_values at.loop-tempo.state n.row) (brings t.stop_values t.delay_values t.warp_beats t.warp_lengths at.loop-tempo.state n.kind) n.kind
runs c = rw (← comes-at (goal.at.After-still_runs c).After-time_at-time-in-loop-tempo, ← c.number_of-number.ensures) c.still_runs.ensures

pub returns-then-still_runs : goal.returns-then-still_runs
returns-then-still_runs c =
    let ran = c in
    let timed = ran in
    let at = timed in
    let t = timing-of (goal.at.returns-then-still_runs at).At-loop-tempo in
    let in-it = still_running (elapsed-of (goal.at.returns-then-still_runs at).At-loop-tempo) (early-of (goal.at.returns-then-still_runs at).At-loop-tempo) t at.loop-tempo.state _ (is_found (goal.at.returns-then-still_runs timed).After-time_at-time-in-loop-tempo) (rw (comes-at (goal.at.returns-then-still_runs timed).After-time_at-time-in-loop-tempo) at ran.if-elapsed-time.false) (sym (runs (goal.at.returns-then-still_runs ran).After-still_runs) ∙ c.if-still_runs.true) in
    walked_by (elapsed-of (goal.at.returns-then-still_runs at).At-loop-tempo) (early-of (goal.at.returns-then-still_runs at).At-loop-tempo) t at.args.start at.loop-tempo.state at.loop-tempo.passed _ _ at.loop-tempo.invariant.0
    (in-it.0, c.pause_of-pause.ensures ∙ in-it.1)
    c.tempo_in_force-tempo-then-still_runs.ensures

pub pass_event-state-requires-in-loop-tempo : goal.pass_event-state-requires-in-loop-tempo
pass_event-state-requires-in-loop-tempo c = let timed = c in can-pass (goal.at.pass_event-state-requires-in-loop-tempo timed).At-loop-tempo _ (is_found (goal.at.pass_event-state-requires-in-loop-tempo timed).After-time_at-time-in-loop-tempo)

-- what is ahead is over, and passed
found-over : (c : Else-still_runs) → let at = c in is_ahead_over (elapsed-of (goal.at.Else-still_runs at).At-loop-tempo) (early-of (goal.at.Else-still_runs at).At-loop-tempo) (timing-of (goal.at.Else-still_runs at).At-loop-tempo) at.loop-tempo.state ≡ true
found-over c =
    let ran = c in
    let timed = ran in
    let at = timed in
    come_and_over (elapsed-of (goal.at.Else-still_runs at).At-loop-tempo) (early-of (goal.at.Else-still_runs at).At-loop-tempo) (timing-of (goal.at.Else-still_runs at).At-loop-tempo) at.loop-tempo.state _ (is_found (goal.at.Else-still_runs timed).After-time_at-time-in-loop-tempo) (rw (comes-at (goal.at.Else-still_runs timed).After-time_at-time-in-loop-tempo) at ran.if-elapsed-time.false) (sym (runs (goal.at.Else-still_runs ran).After-still_runs) ∙ c.if-still_runs.false)

found_passed : (c : After-pass_event-state-in-loop-tempo) →
    let timed = c in
    let at = timed in
    c.pass_event-state-in-loop-tempo.result ≡ passing (early-of (goal.at.After-pass_event-state-in-loop-tempo at).At-loop-tempo) (timing-of (goal.at.After-pass_event-state-in-loop-tempo at).At-loop-tempo) at.loop-tempo.state timed.in-Some.next
found_passed c = rw (← comes-at (goal.at.After-pass_event-state-in-loop-tempo c).After-time_at-time-in-loop-tempo, ← c.number_of-number.ensures) c.pass_event-state-in-loop-tempo.ensures

pub overflow_add-passed-in-loop-tempo : goal.overflow_add-passed-in-loop-tempo
overflow_add-passed-in-loop-tempo c = record { fits = counted (goal.at.overflow_add-passed-in-loop-tempo c).At-loop-tempo }

pub loop-tempo-smaller : goal.loop-tempo-smaller
loop-tempo-smaller c = let p = c in let timed = c in (moved (goal.at.loop-tempo-smaller timed).At-loop-tempo _ (is_found (goal.at.loop-tempo-smaller timed).After-time_at-time-in-loop-tempo) p.pass_event-state-in-loop-tempo.result (found_passed (goal.at.loop-tempo-smaller p).After-pass_event-state-in-loop-tempo) (found-over (goal.at.loop-tempo-smaller c).Else-still_runs)).1

pub loop-tempo-preserved : goal.loop-tempo-preserved
loop-tempo-preserved c =
    let p = c in
    let timed = c in (
      (moved (goal.at.loop-tempo-preserved timed).At-loop-tempo _ (is_found (goal.at.loop-tempo-preserved timed).After-time_at-time-in-loop-tempo) p.pass_event-state-in-loop-tempo.result (found_passed (goal.at.loop-tempo-preserved p).After-pass_event-state-in-loop-tempo) (found-over (goal.at.loop-tempo-preserved c).Else-still_runs)).0,
      rw c.heads_after-heads.ensures (heads-moved (goal.at.loop-tempo-preserved timed).At-loop-tempo _ (is_found (goal.at.loop-tempo-preserved timed).After-time_at-time-in-loop-tempo) p.pass_event-state-in-loop-tempo.result (found_passed (goal.at.loop-tempo-preserved p).After-pass_event-state-in-loop-tempo)),
    )
