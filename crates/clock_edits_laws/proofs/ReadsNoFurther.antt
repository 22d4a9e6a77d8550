-- A walk to a row is the walk over the lists cut at that row. Assumes nothing.
use Rattle.std.specs.Prelude.{Option, Some, None}
use Prim.Native.Nat.{ℕ, zero, suc, ◌+◌, ◌-◌, ◌≤◌, ◌<◌}
use mathlib.Core.List.{List}
use mathlib.Core.Bool.{Bool, true, false}
use mathlib.Core.Path.{◌≡◌, refl, sym, ap, ◌∙◌}
use native.Mathlib.Omega.{arith}
use borrow.Author.Tests.{eqb-false}
use lib.Dec.{eqb}
use lib.ListN.{get_or, take}
use lib.Seq.{get_or-take}
use lib.IntN.{ℤ}
use lib.Ieee.{Float, nan}
use Rattle.picks.specs.Pick.{pick}
use Rattle.chart.specs.Timing.{Timing}
use Rattle.chart.specs.declared.State.{State}
use Rattle.clock_walk.specs.Events.{ahead, due}
use Rattle.clock_walk.specs.Passing.{in_force, time_to, time_at, brings, event_passed, passing}
use Rattle.clock_walk.specs.Course.{onward, events_left}
use Rattle.clock_walk.specs.Walk.{is_passes, is_due, walk_on}
use Rattle.clock_walk.specs.declared.Next.{Next}
use Rattle.clock_walk.specs.declared.Event.{Event}
use Rattle.clock_walk.specs.declared.Event.TheVariants.{WarpEnd, Tempo, Delay, Stop, Warp}
use Rattle.rows.proofs.RowOrder.{no}
use Rattle.clock_walk.proofs.EachCandidate.{Placed, placed}
use Rattle.clock_walk.proofs.EventByEvent.{left-falls}
use Rattle.clock_walk.proofs.ClockTest.{due-found, says_due, walk-on, walk_end, due-passed}
use Rattle.clock_walk.proofs.StaysWithin.{PlacesWithin, places-onward}
use Rattle.clock_edits_laws.specs.AgreeingTimings.{up_to_row, below_row}
use Rattle.clock_edits_laws.proofs.Fronts.{front_by, front_length, cut}
use Rattle.clock_edits_laws.proofs.SameDue.{same-due}

module _ (early : Float) (t : Timing) (r : ℤ) where
  abbrev u : Timing
  u = cut r t

  -- ---- time
  same_force : (values : List Float) (place c : ℕ) → place ≤ c → in_force early values place ≡ in_force early (take c values) place
  unfolding in_force
  same_force values place c within = go (eqb place 0) refl
    where
      below : (p : ℕ) → (p ≡ 0 → ⊥) → p ≤ c → p - 1 < c
      below zero n l = absurd (n refl)
      below (suc p) n l = omega arith

      go : (b : Bool) → eqb place 0 ≡ b → pick b early (get_or values (place - 1) nan) ≡ pick b early (get_or (take c values) (place - 1) nan)
      go true e = refl
      go false e = sym (get_or-take c values (place - 1) nan (below place (eqb-false place 0 e) within))

  same-time : (s : State) (at : ℤ) → PlacesWithin u s → time_at early t.tempo_values s at ≡ time_at early u.tempo_values s at
  unfolding time_at time_to cut
  same-time s at within = rw (same_force t.tempo_values s.tempos (front_by (up_to_row r) t.tempo_beats) (rw (front_length (up_to_row r) t.tempo_beats) at within.tempos))

  -- ---- the number that an event brings
  same-brings : (s : State) (k : Event) → Placed u s k
      → brings t.stop_values t.delay_values t.warp_beats t.warp_lengths s k ≡ brings u.stop_values u.delay_values u.warp_beats u.warp_lengths s k
  unfolding cut
  same-brings s WarpEnd p = refl
  same-brings s Tempo p = refl
  same-brings s Delay p = rw (get_or-take (front_by (up_to_row r) t.delay_beats) t.delay_values s.delays nan (rw (front_length (up_to_row r) t.delay_beats) at p))
  same-brings s Stop p = rw (get_or-take (front_by (below_row r) t.stop_beats) t.stop_values s.stops nan (rw (front_length (below_row r) t.stop_beats) at p))
  same-brings s Warp p =
      let l : s.warps < front_by (below_row r) t.warp_beats = rw (front_length (below_row r) t.warp_beats) at p in
      rw (get_or-take (front_by (below_row r) t.warp_beats) t.warp_beats s.warps nan l, get_or-take (front_by (below_row r) t.warp_beats) t.warp_lengths s.warps nan l)

  -- ---- the state after an event
  same-passing : (s : State) (n : Next) → PlacesWithin u s → Placed u s n.kind → passing early t s n ≡ passing early u s n
  same-passing s n within p =
      ap (λ (x : Float). event_passed s n x (brings t.stop_values t.delay_values t.warp_beats t.warp_lengths s n.kind)) (same-time s n.row within)
      ∙ ap (λ (x : Float). event_passed s n (time_at early u.tempo_values s n.row) x) (same-brings s n.kind p)

  same-onward : (s : State) → PlacesWithin u s → is_due t r s ≡ true → onward early t s ≡ onward early u s
  same-onward s within h = go (due t r s) refl h
    where
      go : (d : Option Next) → due t r s ≡ d → is_passes d ≡ true → onward early t s ≡ onward early u s
      go (Some n) e h =
          let f : due u r s ≡ Some n = sym (same-due r t s within) ∙ e in
          due-passed early t r s n e ∙ same-passing s n within (placed u s n (due-found r (ahead u s) n f)) ∙ sym (due-passed early u r s n f)
      go None e h = no h

  -- ---- the walk
  due-there : (s : State) (b : Bool) → PlacesWithin u s → is_due t r s ≡ b → is_due u r s ≡ b
  due-there s b within e = ap is_passes (sym (same-due r t s within)) ∙ e

  none-due : (s : State) (n : ℕ) → PlacesWithin u s → is_due t r s ≡ false → walk_on early t r s n ≡ walk_on early u r s n
  none-due s n within e =
      walk_end early t r s n e ∙ ap (λ (x : Float). record { state = s; passed = n; time = x }) (same-time s r within) ∙ sym (walk_end early u r s n (due-there s false within e))

  by_left : (f : ℕ) (s : State) (n : ℕ) → events_left t s ≤ f → PlacesWithin u s → (b : Bool) → is_due t r s ≡ b → walk_on early t r s n ≡ walk_on early u r s n
  by_left zero s n few within false e = none-due s n within e
  by_left (suc f) s n few within false e = none-due s n within e
  by_left zero s n few within true e = let l = left-falls early t s (says_due t r s e) in absurd (omega arith)
  by_left (suc f) s n few within true e =
      let p = same-onward s within e in
      let l = left-falls early t s (says_due t r s e) in
      walk-on early t r s n e
      ∙ by_left f (onward early t s) (n + 1) (omega arith) (rw p (places-onward early u s within)) (is_due t r (onward early t s)) refl
      ∙ ap (λ (x : State). walk_on early u r x (n + 1)) p
      ∙ sym (walk-on early u r s n (due-there s true within e))

  pub reads_no_further : (s : State) (n : ℕ) → PlacesWithin u s → walk_on early t r s n ≡ walk_on early u r s n
  reads_no_further s n within = by_left (events_left t s) s n (omega arith) within (is_due t r s) refl
