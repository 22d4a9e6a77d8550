-- Before the row that was looked ahead for, no event is due, and past one tempo none before the next row: the answer follows without a walk. Assumes nothing.
use Rattle.std.proofs.Common.{◌≡◌, ℕ, ◌+◌, ◌-◌, ◌≤◌, Bool, true, false, eqb, ltb, List, length, get_or, ℤ, sym, refl, ap, ◌∙◌, arith, ne_eqb}
use lib.Signed.{lt_z}
use lib.Ieee.{Float, nan, binary64, sub, div}
use Rattle.ieee.specs.Constants.{sixty}
use Rattle.picks.specs.Pick.{pick}
use Rattle.rows.specs.Rows.{row}
use Rattle.chart.specs.Timing.{Timing}
use Rattle.clock_walk.specs.Events.{farthest}
use Rattle.clock_walk.specs.Passing.{in_force, time_to, time_at, after_tempo}
use Rattle.clock_walk.specs.Walk.{walk}
use Rattle.clock_walk.specs.Quiet.{row_at, end_row}
use Rattle.clock_walk.specs.Soon.{quiet_at, tempo_passed, row_after}
use Rattle.chart.specs.declared.State.{State}
use Rattle.clock_walk.specs.declared.Soon.{Soon}
use Rattle.clock_walk.specs.declared.Walked.{Walked}
use Rattle.clock_walk.proofs.OneTempo.{Others, past, none_soon, one_soon}
use Rattle.clock_tests.specs.TimingNumbers.{beat_number}
use Rattle.clock.specs.Question.{filled, beginning, reply, asking}
use Rattle.clock.specs.declared.Cursor.{Cursor}
use Rattle.clock.specs.declared.Answer.{Answer}
use Rattle.clock_run.specs.inside.Outlook.{lesser_row, rest_until, blind, look_on, look_ahead, is_before, quiet_time, soon_before}
use Rattle.clock_run.specs.declared.Outlook.{Outlook}
use Rattle.rows.proofs.RowOrder.{no, lt_le, lt_not}

module _ (r : ℤ) where
  below_left : (a b : ℤ) → lt_z r (lesser_row a b) ≡ true → lt_z r a ≡ true
  unfolding lesser_row
  below_left a b h = go (lt_z a b) refl h
    where
      go : (x : Bool) → lt_z a b ≡ x → lt_z r (pick x a b) ≡ true → lt_z r a ≡ true
      go true e h = h
      go false e h = lt_le r b a h e

  below_right : (a b : ℤ) → lt_z r (lesser_row a b) ≡ true → lt_z r b ≡ true
  unfolding lesser_row
  below_right a b h = go (lt_z a b) refl h
    where
      go : (x : Bool) → lt_z a b ≡ x → lt_z r (pick x a b) ≡ true → lt_z r b ≡ true
      go true e h = lt_le r a b h (lt_not a b e)
      go false e h = h

  -- before the next event that is no tempo, nothing else is due
  others : (t : Timing) (s : State) → lt_z r (rest_until t.stop_beats t.delay_beats t.warp_beats s) ≡ true → Others t r s
  unfolding rest_until
  others t s h =
      let h1 = below_right farthest _ h in
      let h2 = below_right (end_row s.warping s.end) _ h1 in
      let h3 = below_right (row_at t.delay_beats s.delays) _ h2 in
      record {
        of_all = below_left farthest _ h;
        of_end = below_left (end_row s.warping s.end) _ h1;
        of_delay = below_left (row_at t.delay_beats s.delays) _ h2;
        of_stop = below_left (row_at t.stop_beats s.stops) (row_at t.warp_beats s.warps) h3;
        of_warp = below_right (row_at t.stop_beats s.stops) (row_at t.warp_beats s.warps) h3;
      }

  -- a tempo's time by the rate that was looked for
  by_rate : (values : List Float) (s : State) → eqb s.tempos 0 ≡ false → quiet_at values s r ≡ quiet_time s (div binary64 (get_or values (s.tempos - 1) nan) sixty) r
  unfolding time_at time_to in_force quiet_time
  by_rate values s e = rw e

-- ---- the answer without a walk

all-four : (a b c d : Bool) → pick a (pick b (pick c false d) false) false ≡ true → (a ≡ true) × (b ≡ true) × (c ≡ false) × (d ≡ true)
all-four true true false true h = (refl, refl, refl, refl)
all-four true true false false h = no h
all-four true true true d h = no h
all-four true false c d h = no h
all-four false b c d h = no h

-- what is known of a beat that is before a row
module _ (known : Bool) (until last : ℤ) (beat : Float) (r : ℤ) where
  before-is : is_before known until last beat r ≡ true → (eqb (beat_number beat) 0 ≡ true) × (known ≡ true) × (lt_z r last ≡ false) × (lt_z r until ≡ true)
  unfolding is_before
  before-is h = all-four (eqb (beat_number beat) 0) known (lt_z r last) (lt_z r until) h

  -- and of one that is not, though it is asked in order
  not_before_lem : is_before known until last beat r ≡ false → eqb (beat_number beat) 0 ≡ true → known ≡ true → lt_z r last ≡ false → lt_z r until ≡ false
  unfolding is_before
  not_before_lem h number k later = rw (number, k, later) at h

abbrev sight : (tempo_beats tempo_values : List Float) → State → ℤ → Outlook
sight tempo_beats tempo_values s rest = record {
  known = true;
  row = lesser_row (row_at tempo_beats s.tempos) rest;
  rest = rest;
  rate = div binary64 (get_or tempo_values (s.tempos - 1) nan) sixty;
}

-- what is known is what was looked for, past a tempo
on-sight : (tempo_beats tempo_values : List Float) (s : State) (rest : ℤ) → (look_on tempo_beats tempo_values s rest).known ≡ true
    → (eqb s.tempos 0 ≡ false) × (look_on tempo_beats tempo_values s rest ≡ sight tempo_beats tempo_values s rest)
unfolding look_on
on-sight tempo_beats tempo_values s rest h = go (eqb s.tempos 0) (ltb (s.tempos - 1) (length tempo_values)) h
  where
    go : (a b : Bool) → (pick a blind (pick b (sight tempo_beats tempo_values s rest) blind)).known ≡ true
        → (a ≡ false) × (pick a blind (pick b (sight tempo_beats tempo_values s rest) blind) ≡ sight tempo_beats tempo_values s rest)
    go false true h = (refl, refl)
    go false false h = no h
    go true b h = no h

-- past a tempo that has a value there is something to see
past-sight : (tempo_beats tempo_values : List Float) (s : State) (rest : ℤ) (place : ℕ) → s.tempos ≡ place + 1 → ltb place (length tempo_values) ≡ true
    → (eqb s.tempos 0 ≡ false) × (look_on tempo_beats tempo_values s rest ≡ sight tempo_beats tempo_values s rest)
unfolding look_on
past-sight tempo_beats tempo_values s rest place e in_values =
    let some = ne_eqb s.tempos 0 (λ z. omega (arith, e, z)) in
    let before : s.tempos - 1 ≡ place = omega (arith, e) in
    (some, rw (some, before, in_values))

abbrev rest_of : Timing → State → ℤ
rest_of t s = rest_until t.stop_beats t.delay_beats t.warp_beats s

seen : (t : Timing) (s : State) → (look_ahead t s).known ≡ true
    → (eqb (length t.tempo_beats) 0 ≡ false) × (look_ahead t s ≡ look_on t.tempo_beats t.tempo_values s (rest_of t s))
unfolding look_ahead
seen t s h = go (eqb (length t.tempo_beats) 0) h
  where
    go : (a : Bool) → (pick a blind (look_on t.tempo_beats t.tempo_values s (rest_of t s))).known ≡ true
        → (a ≡ false) × (pick a blind (look_on t.tempo_beats t.tempo_values s (rest_of t s)) ≡ look_on t.tempo_beats t.tempo_values s (rest_of t s))
    go false h = (refl, refl)
    go true h = no h

-- what is known ahead of a state is what there is to see
abbrev pub Sees : Timing → State → Outlook → Type 0
Sees t s outlook = outlook.known ≡ true → outlook ≡ look_ahead t s

-- then there are tempos, one is passed, and its parts are these
record Seen (t : Timing) (s : State) (outlook : Outlook) : Type 0 where
  some : eqb (length t.tempo_beats) 0 ≡ false
  passed_one : eqb s.tempos 0 ≡ false
  whole : outlook ≡ sight t.tempo_beats t.tempo_values s (rest_of t s)

all_seen : (t : Timing) (s : State) (outlook : Outlook) → Sees t s outlook → outlook.known ≡ true → Seen t s outlook
all_seen t s outlook sees known =
    let e = sees known in
    let some = seen t s (ap (λ (a : Outlook). a.known) (sym e) ∙ known) in
    let on = e ∙ some.1 in
    let one = on-sight t.tempo_beats t.tempo_values s (rest_of t s) (ap (λ (a : Outlook). a.known) (sym on) ∙ known) in
    record { some = some.0; passed_one = one.0; whole = on ∙ one.1 }

module _ (t : Timing) (offset global : Float) (c : Cursor) (beat : Float) where
  abbrev pub answer_of_lem : Walked → Answer
  answer_of_lem w = record { number = 0; time = sub binary64 w.time global; count = w.passed + 1; cursor = record { state = w.state; asked = row binary64 beat } }

  by-walk : eqb (beat_number beat) 0 ≡ true → eqb (length t.tempo_beats) 0 ≡ false → lt_z (row binary64 beat) c.asked ≡ false → (w : Walked) → walk t (row binary64 beat) c.state ≡ w
      → asking t c offset global beat ≡ answer_of_lem w
  unfolding asking reply filled beginning
  by-walk number some later w e = rw (number, some, later, e)

  -- a beat before the row that was looked for
  pub quiet-answer : (outlook : Outlook) → Sees t c.state outlook → is_before outlook.known outlook.row c.asked beat (row binary64 beat) ≡ true
      → answer_of_lem (record { state = c.state; passed = 0; time = quiet_time c.state outlook.rate (row binary64 beat) }) ≡ asking t c offset global beat
  quiet-answer outlook sees h =
      let r = row binary64 beat in
      let asked = before-is outlook.known outlook.row c.asked beat r h in
      let sight = all_seen t c.state outlook sees asked.1 in
      let before : lt_z r (lesser_row (row_at t.tempo_beats c.state.tempos) (rest_of t c.state)) ≡ true = ap (λ (a : Outlook). lt_z r a.row) (sym sight.whole) ∙ asked.3 in
      let o = others r t c.state (below_right r (row_at t.tempo_beats c.state.tempos) (rest_of t c.state) before) in
      let walked = none_soon t r c.state sight.passed_one o (below_left r (row_at t.tempo_beats c.state.tempos) (rest_of t c.state) before) in
      ap (λ (a : Outlook). answer_of_lem (record { state = c.state; passed = 0; time = quiet_time c.state a.rate r })) sight.whole
      ∙ ap (λ (x : Float). answer_of_lem (record { state = c.state; passed = 0; time = x })) (sym (by_rate r t.tempo_values c.state sight.passed_one))
      ∙ sym (by-walk asked.0 sight.some asked.2 _ walked)

-- ---- past one tempo

abbrev not_soon : State → Soon
not_soon s = record { state = s; passed = 0; whole = false }

abbrev past_one : State → Soon
past_one s = record { state = s; passed = 1; whole = true }

-- one tempo is passed, or nothing
pub few-before : (tempo_beats tempo_values : List Float) (outlook : Outlook) (c : Cursor) (beat : Float) (r : ℤ) → (soon_before tempo_beats tempo_values outlook c beat r).passed ≤ 1
unfolding soon_before
few-before tempo_beats tempo_values outlook c beat r =
    go (is_before outlook.known (lesser_row (row_after tempo_beats c.state.tempos) outlook.rest) c.asked beat r) (ltb c.state.tempos (length tempo_beats)) (ltb c.state.tempos (length tempo_values))
  where
    moved : State
    moved = tempo_passed tempo_beats tempo_values c.state outlook.row

    go : (x y z : Bool) → (pick x (pick y (pick z (past_one moved) (not_soon c.state)) (not_soon c.state)) (not_soon c.state)).passed ≤ 1
    go true true true = omega arith
    go true true false = omega arith
    go true false z = omega arith
    go false y z = omega arith

rest-stays : (t : Timing) (s : State) (at : ℤ) → rest_of t (tempo_passed t.tempo_beats t.tempo_values s at) ≡ rest_of t s
unfolding rest_until tempo_passed after_tempo
rest-stays t s at = go (ltb s.tempos (length t.tempo_beats))
  where
    go : (b : Bool) → rest_of t (pick b (after_tempo s at (quiet_at t.tempo_values s at)) s) ≡ rest_of t s
    go true = refl
    go false = refl

-- where a row is before the rest and not before what is next, a tempo is next
is-tempo : (r tempo rest : ℤ) → lt_z r rest ≡ true → lt_z r (lesser_row tempo rest) ≡ false → lesser_row tempo rest ≡ tempo
unfolding lesser_row
is-tempo r tempo rest before behind = go (lt_z tempo rest) refl behind
  where
    go : (b : Bool) → lt_z tempo rest ≡ b → lt_z r (pick b tempo rest) ≡ false → pick b tempo rest ≡ tempo
    go true e h = refl
    go false e h = no (sym h ∙ before)

look_some : (t : Timing) (s : State) → eqb (length t.tempo_beats) 0 ≡ false → look_ahead t s ≡ look_on t.tempo_beats t.tempo_values s (rest_of t s)
unfolding look_ahead
look_some t s e = rw e

module _ (t : Timing) (offset global : Float) (c : Cursor) (beat : Float) (outlook : Outlook) (sees : Sees t c.state outlook)
    (behind : is_before outlook.known outlook.row c.asked beat (row binary64 beat) ≡ false) where
  abbrev moved : State
  moved = tempo_passed t.tempo_beats t.tempo_values c.state outlook.row

  abbrev until : ℤ
  until = lesser_row (row_after t.tempo_beats c.state.tempos) outlook.rest

  -- what is known of a walk that is soon over: its answer, by the rate that is seen from there, and that it is seen
  abbrev Answers : Soon → Type 0
  Answers w =
      (answer_of_lem t offset global c beat (record { state = w.state; passed = w.passed; time = quiet_time w.state (look_on t.tempo_beats t.tempo_values w.state outlook.rest).rate (row binary64 beat) }) ≡ asking t c offset global beat)
      × Sees t w.state (look_on t.tempo_beats t.tempo_values w.state outlook.rest)

  module _ (in_beats : ltb c.state.tempos (length t.tempo_beats) ≡ true) where
    next_place : moved.tempos ≡ c.state.tempos + 1
    unfolding tempo_passed after_tempo
    next_place = rw in_beats

    after_next : row_after t.tempo_beats c.state.tempos ≡ row_at t.tempo_beats moved.tempos
    unfolding row_after
    after_next = rw (next_place, in_beats)

    at-tempo : ltb c.state.tempos (length t.tempo_values) ≡ true → is_before outlook.known until c.asked beat (row binary64 beat) ≡ true → Answers (past_one moved)
    at-tempo in_values h =
        let r = row binary64 beat in
        let s = c.state in
        let tempo = row_at t.tempo_beats s.tempos in
        let asked = before-is outlook.known until c.asked beat r h in
        let sight = all_seen t s outlook sees asked.1 in
        let is_rest : outlook.rest ≡ rest_of t s = ap (λ (a : Outlook). a.rest) sight.whole in
        let is_row : outlook.row ≡ lesser_row tempo (rest_of t s) = ap (λ (a : Outlook). a.row) sight.whole in
        let before : lt_z r (rest_of t s) ≡ true = ap (λ (z : ℤ). lt_z r z) (sym is_rest) ∙ below_right r (row_after t.tempo_beats s.tempos) outlook.rest asked.3 in
        let not_row : lt_z r outlook.row ≡ false = not_before_lem outlook.known outlook.row c.asked beat r behind asked.0 asked.1 asked.2 in
        let is_tempo : outlook.row ≡ tempo = is_row ∙ is-tempo r tempo (rest_of t s) before (ap (λ (z : ℤ). lt_z r z) (sym is_row) ∙ not_row) in
        let is_moved : moved ≡ past t s = ap (λ (z : ℤ). tempo_passed t.tempo_beats t.tempo_values s z) is_tempo in
        let on-is = past-sight t.tempo_beats t.tempo_values moved outlook.rest s.tempos next_place in_values in
        let later : lt_z r (row_at t.tempo_beats moved.tempos) ≡ true =
        ap (λ (z : ℤ). lt_z r z) (sym after_next) ∙ below_left r (row_after t.tempo_beats s.tempos) outlook.rest asked.3 in
        let walked : walk t r s ≡ record { state = moved; passed = 1; time = quiet_at t.tempo_values moved r } =
        one_soon t r s (others r t s before) (ap (λ (z : ℤ). lt_z r z) (sym is_tempo) ∙ not_row) sight.passed_one (ap (λ (x : State). lt_z r (row_at t.tempo_beats x.tempos)) (sym is_moved) ∙ later)
        ∙ ap (λ (x : State). record { state = x; passed = 1; time = quiet_at t.tempo_values x r }) (sym is_moved) in (
          ap (λ (a : Outlook). answer_of_lem t offset global c beat (record { state = moved; passed = 1; time = quiet_time moved a.rate r })) on-is.1
              ∙ ap (λ (x : Float). answer_of_lem t offset global c beat (record { state = moved; passed = 1; time = x })) (sym (by_rate r t.tempo_values moved on-is.0))
              ∙ sym (by-walk t offset global c beat asked.0 sight.some asked.2 _ walked),
          λ k. ap (λ (z : ℤ). look_on t.tempo_beats t.tempo_values moved z) (is_rest ∙ sym (rest-stays t s outlook.row)) ∙ sym (look_some t moved sight.some),
        )

  -- where a walk is soon over, the answer follows
  pub soon_answer : (w : Soon) → w ≡ soon_before t.tempo_beats t.tempo_values outlook c beat (row binary64 beat) → w.whole ≡ true → Answers w
  unfolding soon_before
  soon_answer w is whole =
      rw is
      (go (is_before outlook.known until c.asked beat (row binary64 beat)) (ltb c.state.tempos (length t.tempo_beats)) (ltb c.state.tempos (length t.tempo_values)) refl refl refl (rw is at whole))
    where
      go : (x y z : Bool) → is_before outlook.known until c.asked beat (row binary64 beat) ≡ x → ltb c.state.tempos (length t.tempo_beats) ≡ y → ltb c.state.tempos (length t.tempo_values) ≡ z
          → (pick x (pick y (pick z (past_one moved) (not_soon c.state)) (not_soon c.state)) (not_soon c.state)).whole ≡ true
          → Answers (pick x (pick y (pick z (past_one moved) (not_soon c.state)) (not_soon c.state)) (not_soon c.state))
      go true true true e in_beats in_values h = at-tempo in_beats in_values e
      go true true false e in_beats in_values h = no h
      go true false z e in_beats in_values h = no h
      go false y z e in_beats in_values h = no h
