-- Before any tempo is passed, a walk that began at row 0 stays at rows up to 0, where the first tempo is. Assumes nothing.
use Rattle.clock_walk.specs.declared.Next.{Next}
use Rattle.std.proofs.Common.{◌≡◌, ℕ, ◌<◌, Bool, true, false, ltb, List, length, get_or, ℤ, pos, refl, ap, ◌∙◌, subst, arith, lt-ltb, Option, Some, None}
use lib.Signed.{lt_z}
use lib.Ieee.{Float, nan, binary64}
use Rattle.picks.specs.Pick.{pick}
use Rattle.rows.specs.Rows.{row}
use Rattle.chart.specs.Timing.{Timing}
use Rattle.clock_walk.specs.Events.{sooner, offered, row_ahead, ahead}
use Rattle.clock_walk.specs.Passing.{arrived, event_passed, after_warp_end, after_tempo, after_delay, after_stop, after_warp}
use Rattle.clock_walk.specs.Course.{is_found, is_ahead, past_found, onward}
use Rattle.clock_walk.specs.Walk.{walk_on}
use Rattle.chart.specs.declared.State.{State}
use Rattle.clock_walk.specs.declared.Event.{Event}
use Rattle.clock_walk.specs.declared.Event.TheVariants.{WarpEnd, Tempo, Delay, Stop, Warp}
use Rattle.rows.proofs.RowOrder.{no, le_trans, lt_not, lt_not_self}
use Rattle.clock_walk.proofs.EarlyTempoApart.{onward-grows}
use Rattle.clock_walk.proofs.ClockTest.{says_due}
use Rattle.clock_walk.proofs.StaysWithin.{walk-keeps}

-- ---- the row of an event that is passed is the last row after it
row_at : (s : State) (at : ℤ) (time number : Float) (k : Event) → (arrived s at time number k).row ≡ at
unfolding after_warp_end after_tempo after_delay after_stop after_warp
row_at s at time number WarpEnd = refl
row_at s at time number Tempo = refl
row_at s at time number Delay = refl
row_at s at time number Stop = refl
row_at s at time number Warp = refl

found-row : (early : Float) (t : Timing) (s : State) (a : Option Next) → is_found a ≡ true → (past_found early t s a).row ≡ row_ahead a
unfolding event_passed
found-row early t s (Some n) e = row_at s n.row _ _ n.kind
found-row early t s None e = no e

pub onward-row : (early : Float) (t : Timing) (s : State) → is_ahead t s ≡ true → (onward early t s).row ≡ row_ahead (ahead t s)
onward-row early t s e = found-row early t s (ahead t s) e

-- ---- at most a row
abbrev pub UpTo : ℤ → ℤ → Type 0
UpTo most z = lt_z most z ≡ false

module _ (most : ℤ) where
  sooner_up_to : (a c : Option Next) → UpTo most (row_ahead a) → UpTo most (row_ahead (sooner row_ahead a c))
  unfolding sooner
  sooner_up_to a c h = go (lt_z (row_ahead c) (row_ahead a)) refl
    where
      go : (b : Bool) → lt_z (row_ahead c) (row_ahead a) ≡ b → UpTo most (row_ahead (pick b c a))
      go true e = le_trans (row_ahead c) (row_ahead a) most (lt_not (row_ahead c) (row_ahead a) e) h
      go false e = h

  offered_up_to : (a : Option Next) (beats : List Float) (place : ℕ) (k : Event) → UpTo most (row_ahead a) → UpTo most (row_ahead (offered row_ahead Some a beats place k))
  unfolding offered
  offered_up_to a beats place k h = go (ltb place (length beats))
    where
      go : (b : Bool) → UpTo most (row_ahead (pick b (sooner row_ahead a (Some (record { row = row binary64 (get_or beats place nan); kind = k }))) a))
      go true = sooner_up_to a (Some (record { row = row binary64 (get_or beats place nan); kind = k })) h
      go false = h

-- a candidate brings what is ahead to its row or before it
offered-by : (a : Option Next) (beats : List Float) (place : ℕ) (k : Event) → place < length beats → UpTo (row binary64 (get_or beats place nan)) (row_ahead (offered row_ahead Some a beats place k))
unfolding offered sooner
offered-by a beats place k h = rw (lt-ltb place (length beats) h) (go (lt_z (row binary64 (get_or beats place nan)) (row_ahead a)) refl)
  where
    go : (b : Bool) → lt_z (row binary64 (get_or beats place nan)) (row_ahead a) ≡ b
        → UpTo (row binary64 (get_or beats place nan)) (row_ahead (pick b (Some (record { row = row binary64 (get_or beats place nan); kind = k })) a))
    go true e = lt_not_self (row binary64 (get_or beats place nan))
    go false e = e

-- what is ahead is no later than the next tempo
pub tempo-ahead : (t : Timing) (s : State) → s.tempos < length t.tempo_beats → UpTo (row binary64 (get_or t.tempo_beats s.tempos nan)) (row_ahead (ahead t s))
unfolding ahead
tempo-ahead t s h =
    let at = row binary64 (get_or t.tempo_beats s.tempos nan) in
    offered_up_to at _ t.warp_beats s.warps Warp
    (offered_up_to at _ t.stop_beats s.stops Stop
    (offered_up_to at _ t.delay_beats s.delays Delay (offered-by _ t.tempo_beats s.tempos Tempo h)))

abbrev pub Low : ℤ → Type 0
Low z = UpTo (pos 0) z

-- no tempo is passed only at rows up to 0
abbrev pub Early : State → Type 0
Early s = s.tempos ≡ 0 → Low s.row

module _ (early : Float) (t : Timing) (some : 0 < length t.tempo_beats) (first : row binary64 (get_or t.tempo_beats 0 nan) ≡ pos 0) where
  early-onward : (s : State) → is_ahead t s ≡ true → Early s → Early (onward early t s)
  early-onward s e h q =
      let g = onward-grows early t s in
      let z : s.tempos ≡ 0 = omega arith in
      rw (onward-row early t s e)
      (subst (λ (x : ℤ). UpTo x (row_ahead (ahead t s))) (ap (λ (k : ℕ). row binary64 (get_or t.tempo_beats k nan)) z ∙ first) (tempo-ahead t s (rw z some)))

  pub stays-early : (r : ℤ) (s : State) (n : ℕ) → Early s → Early (walk_on early t r s n).state
  stays-early r s n h = walk-keeps early t r (λ (s : State) (n : ℕ). Early s) (λ s n e h. early-onward s (says_due t r s e) h) s n h
