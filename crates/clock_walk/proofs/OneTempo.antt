-- Where nothing but tempos is due by a row, a walk to it passes the next tempo, and ends there if the tempo after it is later. Assumes nothing.
use Rattle.std.proofs.Common.{◌≡◌, ℕ, ◌+◌, ◌≤◌, Bool, true, false, eqb, ltb, List, length, get_or, ℤ, pos, negsuc, sym, refl, ap, ◌∙◌, arith, ltb-false, lt-ltb, Some}
use lib.Signed.{lt_z}
use lib.Ieee.{Float, nan, binary64}
use Rattle.ieee.specs.Constants.{plus_zero}
use Rattle.picks.specs.Pick.{pick}
use Rattle.rows.specs.Rows.{row}
use Rattle.chart.specs.Timing.{Timing}
use Rattle.clock_walk.specs.Events.{farthest, ahead}
use Rattle.clock_walk.specs.Passing.{early_tempo, event_passed, after_tempo}
use Rattle.clock_walk.specs.Quiet.{row_at, end_row, is_later, is_next_later, only_tempos}
use Rattle.clock_walk.specs.Heads.{heads_of}
use Rattle.clock_walk.specs.Soon.{quiet_at, tempo_passed, soon_of, walked_soon}
use Rattle.clock_walk.specs.Course.{onward}
use Rattle.clock_walk.specs.Walk.{is_due, walk_on, walk}
use Rattle.chart.specs.declared.State.{State}
use Rattle.clock_walk.specs.declared.Soon.{Soon}
use Rattle.clock_walk.specs.declared.Event.TheVariants.{Tempo}
use Rattle.clock_walk.proofs.ClockTest.{first_up_to, walk-on, walk_end}
use Rattle.clock_walk.proofs.HeadsAhead.{ahead_by_heads, tempo-found}
use Rattle.clock_walk.proofs.QuietRows.{none_before, quiet-end}
use Rattle.clock_walk.proofs.LaterBeats.{later-entry, later-row}
use Rattle.clock_walk.proofs.PlacesWithin.{each-test}
use Rattle.rows.proofs.RowOrder.{no, le_lt, lt_not_self}

-- a row that is not the greatest i32 is that of an entry
listed : (beats : List Float) (place : ℕ) → lt_z (row_at beats place) farthest ≡ true → ltb place (length beats) ≡ true
unfolding row_at
listed beats place h = go (ltb place (length beats)) h
  where
    go : (b : Bool) → lt_z (pick b (row binary64 (get_or beats place nan)) farthest) farthest ≡ true → b ≡ true
    go true h = refl
    go false h = no (sym (lt_not_self farthest) ∙ h)

-- the state past the next tempo
abbrev pub past : Timing → State → State
past t s = tempo_passed t.tempo_beats t.tempo_values s (row_at t.tempo_beats s.tempos)

-- the row is before all that is ahead but the tempos
pub record Others (t : Timing) (r : ℤ) (s : State) : Type 0 where
  pub of_all : lt_z r farthest ≡ true
  pub of_end : lt_z r (end_row s.warping s.end) ≡ true
  pub of_delay : lt_z r (row_at t.delay_beats s.delays) ≡ true
  pub of_stop : lt_z r (row_at t.stop_beats s.stops) ≡ true
  pub of_warp : lt_z r (row_at t.warp_beats s.warps) ≡ true

module _ (t : Timing) (r : ℤ) (s : State) where
  no-early : eqb s.tempos 0 ≡ false → early_tempo t.tempo_beats t.tempo_values s ≡ plus_zero
  unfolding early_tempo
  no-early e = rw e

  -- nothing is due
  pub none_soon : eqb s.tempos 0 ≡ false → Others t r s → lt_z r (row_at t.tempo_beats s.tempos) ≡ true
      → walk t r s ≡ record { state = s; passed = 0; time = quiet_at t.tempo_values s r }
  none_soon e o tempo =
      quiet-end t r s (none_before r t s o.of_all o.of_end tempo o.of_delay o.of_stop o.of_warp)
      ∙ rw (no-early e)

  module _ (o : Others t r s) (due-by : lt_z r (row_at t.tempo_beats s.tempos) ≡ false) where
    first-ahead : ahead t s ≡ Some (record { row = row_at t.tempo_beats s.tempos; kind = Tempo })
    unfolding heads_of
    first-ahead =
        sym (ahead_by_heads t s)
        ∙ tempo-found (heads_of t.tempo_beats t.stop_beats t.delay_beats t.warp_beats s)
        (le_lt (row_at t.tempo_beats s.tempos) r farthest due-by o.of_all)
        (le_lt (row_at t.tempo_beats s.tempos) r (row_at t.stop_beats s.stops) due-by o.of_stop)
        (le_lt (row_at t.tempo_beats s.tempos) r (row_at t.delay_beats s.delays) due-by o.of_delay)
        (le_lt (row_at t.tempo_beats s.tempos) r (row_at t.warp_beats s.warps) due-by o.of_warp)
        (le_lt (row_at t.tempo_beats s.tempos) r (end_row s.warping s.end) due-by o.of_end)

    due_now : is_due t r s ≡ true
    due_now = rw (first-ahead, first_up_to r (record { row = row_at t.tempo_beats s.tempos; kind = Tempo }) refl due-by)

    there : ltb s.tempos (length t.tempo_beats) ≡ true
    there = listed t.tempo_beats s.tempos (le_lt (row_at t.tempo_beats s.tempos) r farthest due-by o.of_all)

    first_step : onward plus_zero t s ≡ past t s
    unfolding tempo_passed event_passed
    first_step = rw (first-ahead, there)

    others-stay : Others t r (past t s)
    unfolding tempo_passed after_tempo
    others-stay = rw there (record { of_all = o.of_all; of_end = o.of_end; of_delay = o.of_delay; of_stop = o.of_stop; of_warp = o.of_warp })

    -- the tempo after the next is later, once one is passed
    before-next : is_next_later t.tempo_beats s.tempos r ≡ true → lt_z r (row_at t.tempo_beats (past t s).tempos) ≡ true
    unfolding tempo_passed after_tempo is_next_later
    before-next h = rw there (later-row r t.tempo_beats (s.tempos + 1) (rw there at h)).1

    -- one is due, and no other
    pub one_soon : eqb s.tempos 0 ≡ false → lt_z r (row_at t.tempo_beats (past t s).tempos) ≡ true
        → let s' = past t s in
        walk t r s ≡ record { state = s'; passed = 1; time = quiet_at t.tempo_values s' r }
    unfolding walk
    one_soon e later =
        let s' = past t s in
        let o' = others-stay in
        let none : is_due t r s' ≡ false = none_before r t s' o'.of_all o'.of_end later o'.of_delay o'.of_stop o'.of_warp in
        ap (λ (x : Float). walk_on x t r s 0) (no-early e)
        ∙ walk-on plus_zero t r s 0 due_now
        ∙ ap (λ (x : State). walk_on plus_zero t r x 1) first_step
        ∙ walk_end plus_zero t r s' 1 none

pub only-tempos : (t : Timing) (r : ℤ) (s : State) → only_tempos t.stop_beats t.delay_beats t.warp_beats s r ≡ true → Others t r s
only-tempos t (negsuc n) s only = no (sym (each-test t.stop_beats t.delay_beats t.warp_beats s (negsuc n) only).not_below)
only-tempos t (pos n) s only =
    let are = each-test t.stop_beats t.delay_beats t.warp_beats s (pos n) only in
    let small : n ≤ 3145727 = ltb-false 3145727 n are.not_above in
    record {
      of_all = lt-ltb n 2147483647 (omega arith);
      of_end = are.before_end;
      of_delay = later-entry n small t.delay_beats s.delays are.delay;
      of_stop = later-entry n small t.stop_beats s.stops are.stop;
      of_warp = later-entry n small t.warp_beats s.warps are.warp;
    }

module _ (tempo_beats tempo_values : List Float) (r : ℤ) (s : State) where
  abbrev picked : Bool → Bool → Bool → Soon
  picked a b d =
      pick a (record { state = s; passed = 0; whole = true })
      (pick b (record { state = s; passed = 0; whole = true })
      (pick d (record { state = tempo_passed tempo_beats tempo_values s (row_at tempo_beats s.tempos); passed = 1; whole = true }) (record { state = s; passed = 0; whole = false })))

  pub soon_few : (soon_of tempo_beats tempo_values s r).passed ≤ 1
  unfolding soon_of
  soon_few = go (is_later tempo_beats s.tempos r) (lt_z r (row_at tempo_beats s.tempos)) (is_next_later tempo_beats s.tempos r)
    where
      go : (a b d : Bool) → (picked a b d).passed ≤ 1
      go true b d = omega arith
      go false true d = omega arith
      go false false true = omega arith
      go false false false = omega arith

-- a walk that is soon over is that walk
pub soon_walk : (t : Timing) (r : ℤ) (s : State) → eqb s.tempos 0 ≡ false → Others t r s → (soon_of t.tempo_beats t.tempo_values s r).whole ≡ true
    → walk t r s ≡ walked_soon t.tempo_values r (soon_of t.tempo_beats t.tempo_values s r)
unfolding soon_of
soon_walk t r s e o whole = go (is_later t.tempo_beats s.tempos r) (lt_z r (row_at t.tempo_beats s.tempos)) (is_next_later t.tempo_beats s.tempos r) refl refl refl whole
  where
    go : (a b d : Bool) → is_later t.tempo_beats s.tempos r ≡ a → lt_z r (row_at t.tempo_beats s.tempos) ≡ b → is_next_later t.tempo_beats s.tempos r ≡ d
        → (picked t.tempo_beats t.tempo_values r s a b d).whole ≡ true → walk t r s ≡ walked_soon t.tempo_values r (picked t.tempo_beats t.tempo_values r s a b d)
    go true b d l f g w = none_soon t r s e o (later-row r t.tempo_beats s.tempos l).1
    go false true d l f g w = none_soon t r s e o f
    go false false true l f g w = one_soon t r s o f e (before-next t r s o f g)
    go false false false l f g w = no w
