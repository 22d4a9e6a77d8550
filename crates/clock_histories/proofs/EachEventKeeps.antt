-- Every walk from a state that is fine, over lists that are taken, stays fine: its places, its last row, its time and its warp's end stay within bounds. Assumes nothing.
use Rattle.clock_walk.specs.declared.Next.{Next}
use Rattle.std.specs.Prelude.{Option, Some, None}
use Prim.Native.Nat.{ℕ, ◌+◌, ◌-◌, ◌*◌, ◌^◌, ◌≤◌, ◌<◌}
use mathlib.Core.List.{List}
use mathlib.Core.Bool.{Bool, true, false}
use mathlib.Core.Logic.{◌⊎◌, inl, inr}
use mathlib.Core.Path.{◌≡◌, refl, sym}
use native.Mathlib.Omega.{arith}
use borrow.Author.Tests.{ltb-false}
use lib.Dec.{lit≤}
use lib.ListN.{length, get_or}
use lib.IntN.{ℤ, pos, negsuc, nat_abs}
use lib.Signed.{lt_z}
use lib.Ieee.{Float, nan, binary64, add}
use Rattle.ieee.proofs.Magnitude.{AtMost, Sized, sized}
use Rattle.ieee.proofs.SizesAddUp.{OfFormat, digits_of_format, add_at_most, at_most_wider}
use Rattle.rows.specs.Rows.{row}
use Rattle.rows.proofs.RowWithin.{row_within}
use Rattle.rows.proofs.RowNotNegative.{row_not_negative}
use Rattle.limits.specs.Numbers.{range_of, in_range, all_in, up_to, most_row}
use Rattle.limits.specs.declared.Kind.TheVariants as Kind
use Rattle.limits.proofs.Every.{every-at}
use Rattle.limits.proofs.ListTaken.{Taken}
use Rattle.limits.proofs.TakenWithin.{taken-within}
use Rattle.chart.specs.Timing.{Timing}
use Rattle.clock_walk.specs.Events.{row_ahead, ahead}
use Rattle.clock_walk.specs.Passing.{early_tempo, time_to, time_at, brings, arrived, event_passed, after_warp_end, after_tempo, after_delay, after_stop, after_warp}
use Rattle.clock_walk.specs.Course.{past_found, onward, events_left}
use Rattle.clock_walk.specs.Walk.{is_due, walk_on, walk}
use Rattle.chart.specs.declared.State.{State}
use Rattle.clock_walk.specs.declared.Event.{Event}
use Rattle.clock_walk.specs.declared.Event.TheVariants.{WarpEnd, Tempo, Delay, Stop, Warp}
use Rattle.rows.proofs.RowOrder.{no}
use Rattle.clock_walk.proofs.EachCandidate.{Placed, PlacedFound, placed-ahead, of_ahead}
use Rattle.clock_walk.proofs.BeforeAnyTempo.{UpTo, onward-row}
use Rattle.clock_walk.proofs.ClockTest.{says_due, due_up_to}
use Rattle.clock_walk.proofs.EventByEvent.{left-falls}
use Rattle.clock_walk.proofs.StaysWithin.{PlacesWithin, places-onward, walk-keeps}
use Rattle.rows.proofs.Allowed.{taken-allowed}
use Rattle.clock_histories.proofs.TempoInForce.{IsTempo, early-taken, force_taken}
use Rattle.clock_histories.proofs.TimeBetweenRows.{time-between}
use Rattle.clock_histories.proofs.WarpEnds.{EndFine, end-grows}

-- the four lists are taken
pub record ListsTaken (t : Timing) : Type 0 where
  pub tempos : Taken (range_of Kind.Beat) (range_of Kind.Tempo) t.tempo_beats t.tempo_values
  pub stops : Taken (range_of Kind.Beat) (range_of Kind.Pause) t.stop_beats t.stop_values
  pub delays : Taken (range_of Kind.Beat) (range_of Kind.Pause) t.delay_beats t.delay_values
  pub warps : Taken (range_of Kind.Beat) (range_of Kind.Value) t.warp_beats t.warp_lengths

-- a whole number of 2 ^ 50 seconds
abbrev pub spans : ℕ → ℕ
spans k = k * 2 ^ 50

-- how many there are at most after n events: one to begin with, and two for each
abbrev pub spans_after : ℕ → ℕ
spans_after n = 2 * n + 1

two-each : (n : ℕ) → spans (spans_after n + 1 + 1) ≤ spans (spans_after (n + 1))
two-each n = omega arith

-- as many events as there are in four full lists, and the end of a warp that was begun before
abbrev pub most_events : ℕ
most_events = 5121

-- after n events
pub record Fine (t : Timing) (s : State) (n : ℕ) : Type 0 where
  pub places : PlacesWithin t s
  pub near : nat_abs s.row ≤ most_row
  pub time : AtMost (spans (spans_after n)) s.time
  pub end : EndFine s.end
  pub few : n + events_left t s ≤ most_events

pub spans_of_format : (k : ℕ) → k ≤ 2 ^ 20 → OfFormat binary64 (spans k)
spans_of_format k h = digits_of_format binary64 k 50 (omega arith) (lit≤ tt)

one_more : (k : ℕ) (x y : Float) → AtMost (spans k) x → AtMost (2 ^ 50) y → k + 1 ≤ 2 ^ 20 → AtMost (spans (k + 1)) (add binary64 x y)
one_more k x y v w l = add_at_most binary64 (spans_of_format (k + 1) l) x y v w (omega arith)

-- a number at a place of a list that is taken
taken_at : (k : ℕ) (list : List Float) (i : ℕ) → all_in (up_to k) list ≡ true → i < length list → Sized k (get_or list i nan)
taken_at k list i h l = sized k (get_or list i nan) (taken-within k (get_or list i nan) (every-at (in_range (up_to k)) list i nan h l))

-- ---- the row of what is due
-- within the limit, or not below 0
abbrev NotFar : ℤ → Type 0
NotFar z = (nat_abs z ≤ most_row) ⊎ ((n : ℕ) × (z ≡ pos n))

brought_near : (r z : ℤ) → nat_abs r ≤ most_row → UpTo r z → NotFar z → nat_abs z ≤ most_row
brought_near r z near u (inl h) = h
brought_near r z near u (inr (n, e)) = rw e (go r near (rw e at u))
  where
    go : (r : ℤ) → nat_abs r ≤ most_row → lt_z r (pos n) ≡ false → n ≤ most_row
    go (pos a) near u = omega (arith, ltb-false a n u)
    go (negsuc a) near u = no (sym u)

module _ (t : Timing) (lists : ListsTaken t) (r : ℤ) (asked : nat_abs r ≤ most_row) where
  row_at : (beats : List Float) (i : ℕ) → all_in (range_of Kind.Beat) beats ≡ true → i < length beats → NotFar (row binary64 (get_or beats i nan))
  row_at beats i h l = inl (row_within binary64 (get_or beats i nan) (taken-allowed (get_or beats i nan) (every-at (in_range (range_of Kind.Beat)) beats i nan h l)))

  due-near : (s : State) → EndFine s.end → is_due t r s ≡ true → nat_abs (row_ahead (ahead t s)) ≤ most_row
  due-near s e d =
      brought_near r (row_ahead (ahead t s)) asked (due_up_to r t s d)
      (of_ahead (λ (a : Option Next). NotFar (row_ahead a)) t s
      (inr (2147483647, refl))
      (λ _. inr (row_not_negative binary64 s.end e.num e.den e.den_pos e.value e.small))
      (row_at t.tempo_beats s.tempos lists.tempos.beats_in)
      (row_at t.delay_beats s.delays lists.delays.beats_in)
      (row_at t.stop_beats s.stops lists.stops.beats_in)
      (row_at t.warp_beats s.warps lists.warps.beats_in))

  -- ---- what an event leaves, with the number that it brings
  abbrev number : State → Event → Float
  number s k = brings t.stop_values t.delay_values t.warp_beats t.warp_lengths s k

  end_after : (s : State) (at : ℤ) (time : Float) (k : Event) → Placed t s k → EndFine s.end → EndFine (arrived s at time (number s k) k).end
  unfolding after_warp_end after_tempo after_delay after_stop after_warp
  end_after s at time WarpEnd p e = e
  end_after s at time Tempo p e = e
  end_after s at time Delay p e = e
  end_after s at time Stop p e = e
  end_after s at time Warp p e =
      end-grows s.end (get_or t.warp_beats s.warps nan) (get_or t.warp_lengths s.warps nan) e
      (taken_at 16 t.warp_beats s.warps lists.warps.beats_in p)
      (taken_at 30 t.warp_lengths s.warps lists.warps.values_in (rw lists.warps.even at p))

  time-after : (s : State) (at : ℤ) (time : Float) (k : ℕ) (kind : Event) → k + 1 ≤ 2 ^ 20 → Placed t s kind → AtMost (spans k) time
      → AtMost (spans (k + 1)) (arrived s at time (number s kind) kind).time
  unfolding after_warp_end after_tempo after_delay after_stop after_warp
  time-after s at time k WarpEnd l p h = at_most_wider (omega arith) h
  time-after s at time k Tempo l p h = at_most_wider (omega arith) h
  time-after s at time k Delay l p h = one_more k time (get_or t.delay_values s.delays nan) h (taken_at 50 t.delay_values s.delays lists.delays.values_in (rw lists.delays.even at p)) l
  time-after s at time k Stop l p h = one_more k time (get_or t.stop_values s.stops nan) h (taken_at 50 t.stop_values s.stops lists.stops.values_in (rw lists.stops.even at p)) l
  time-after s at time k Warp l p h = at_most_wider (omega arith) h

  module _ (early : Float) (tempo : IsTempo early) where
    end-found : (s : State) (a : Option Next) → PlacedFound t s a → EndFine s.end → EndFine (past_found early t s a).end
    unfolding event_passed
    end-found s (Some n) p e = end_after s n.row _ n.kind p e
    end-found s None p e = e

    time-found : (s : State) (k : ℕ) (a : Option Next) → k + 1 ≤ 2 ^ 20 → PlacedFound t s a → AtMost (spans k) s.time → AtMost (spans k) (time_at early t.tempo_values s (row_ahead a))
        → AtMost (spans (k + 1)) (past_found early t s a).time
    unfolding event_passed
    time-found s k (Some n) l p before h = time-after s n.row _ k n.kind l p h
    time-found s k None l p before h = at_most_wider (omega arith) before

    -- the time at a row within the limit
    time-there : (s : State) (n : ℕ) → Fine t s n → (at : ℤ) → nat_abs at ≤ most_row → AtMost (spans (spans_after n + 1)) (time_at early t.tempo_values s at)
    unfolding time_at
    time-there s n f at near =
        let force = force_taken early t.tempo_values s.tempos tempo lists.tempos.values_in (rw lists.tempos.even at f.places.tempos) in
        let few = f.few in
        one_more (spans_after n) s.time (time_to early t.tempo_values s at) f.time
        (at_most_wider (lit≤ tt) (time-between early t.tempo_values s at f.near near force)) (omega arith)

    fine-onward : (s : State) (n : ℕ) → is_due t r s ≡ true → Fine t s n → Fine t (onward early t s) (n + 1)
    fine-onward s n d f =
        let few = f.few in
        let less = left-falls early t s (says_due t r s d) in
        let near = due-near s f.end d in
        record {
          places = places-onward early t s f.places;
          near = rw (onward-row early t s (says_due t r s d)) near;
          time = at_most_wider (two-each n)
              (time-found s (spans_after n + 1) (ahead t s) (omega arith) (placed-ahead t s) (at_most_wider (omega arith) f.time) (time-there s n f (row_ahead (ahead t s)) near));
          end = end-found s (ahead t s) (placed-ahead t s) f.end;
          few = omega arith;
        }

    pub fine-walk : (s : State) (n : ℕ) → Fine t s n → Fine t (walk_on early t r s n).state (walk_on early t r s n).passed
    fine-walk s n f = walk-keeps early t r (Fine t) fine-onward s n f

  -- ---- the walk of a question, from before any tempo
  module _ (s : State) (none : s.tempos ≡ 0) (fine : Fine t s 0) where
    tempo : IsTempo (early_tempo t.tempo_beats t.tempo_values s)
    tempo = early-taken t.tempo_beats t.tempo_values s none lists.tempos.values_in

    pub walk_fine : Fine t (walk t r s).state (walk t r s).passed
    unfolding walk
    walk_fine = fine-walk (early_tempo t.tempo_beats t.tempo_values s) tempo s 0 fine

    -- and its time
    pub walk-time : AtMost (spans (spans_after (walk t r s).passed + 1)) (walk t r s).time
    unfolding walk walk_on
    walk-time =
        let early = early_tempo t.tempo_beats t.tempo_values s in
        let w = walk_on early t r s 0 in
        time-there early tempo w.state w.passed (fine-walk early tempo s 0 fine) r asked
