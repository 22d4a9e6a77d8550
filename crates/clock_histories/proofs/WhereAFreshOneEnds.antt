-- Wherever a cursor has come to, its next walk ends where a fresh cursor's would, at the same time. Assumes nothing.
use Prim.Native.Nat.{◌≤◌, ◌<◌}
use mathlib.Core.Bool.{Bool, true, false}
use mathlib.Core.Logic.{◌⊎◌, ⊎_elim}
use mathlib.Core.Path.{◌≡◌, refl, sym, ap, ◌∙◌}
use native.Mathlib.Omega.{arith}
use native.Mathlib.Nat.{eq-zero-or-pos}
use borrow.Author.Tests.{eq-eqb}
use lib.ListN.{length, get_or}
use lib.IntN.{ℤ, pos, nat_abs}
use lib.Signed.{lt_z}
use lib.Ieee.{Float, nan, binary64}
use Rattle.ieee.specs.Constants.{sixty}
use Rattle.picks.specs.Pick.{pick}
use Rattle.rows.specs.Rows.{row}
use Rattle.limits.specs.Numbers.{range_of, all_in, most_row}
use Rattle.limits.specs.declared.Kind.TheVariants.{Beat}
use Rattle.chart.specs.Timing.{Timing}
use Rattle.clock_walk.specs.Passing.{first_or, early_tempo}
use Rattle.clock_walk.specs.Walk.{walk_on, walk}
use Rattle.chart.specs.declared.State.{State}
use Rattle.clock_walk.specs.declared.Walked.{Walked}
use Rattle.clock_walk.proofs.WalkedOn.{walked_on}
use Rattle.clock_walk.proofs.CountApart.{same-state, same-time}
use Rattle.clock_walk.proofs.EarlyTempoApart.{early-apart}
use Rattle.clock_walk.proofs.BeforeAnyTempo.{Low, Early, stays-early}
use Rattle.clock_tests.specs.TimingNumbers.{rises, starts_at_zero}
use Rattle.clock.specs.Question.{fresh_state, fresh_cursor, beginning}
use Rattle.clock.specs.declared.Cursor.{Cursor}
use Rattle.clock_histories.proofs.FirstTempoInForce.{first_in_force}

-- a timing that has a tempo, the first at beat 0, and the rows that a walk from a fresh state comes to
pub record Usable (t : Timing) (offset global : Float) : Type 0 where
  pub some : 0 < length t.tempo_beats
  pub first : row binary64 (get_or t.tempo_beats 0 nan) ≡ pos 0
  pub beats_in : all_in (range_of Beat) t.tempo_beats ≡ true
  pub starts : starts_at_zero t.tempo_beats ≡ true
  pub rise : rises t.tempo_beats ≡ true
  pub near : (r : ℤ) → nat_abs r ≤ most_row → nat_abs (walk t r (fresh_state offset global)).state.row ≤ most_row

module _ (t : Timing) (offset global : Float) (usable : Usable t offset global) where
  abbrev fresh : State
  fresh = fresh_state offset global

  abbrev early : Float
  early = early_tempo t.tempo_beats t.tempo_values fresh

  begins-early : early ≡ first_or sixty t.tempo_values
  unfolding early_tempo fresh_state
  begins-early = first_in_force t.tempo_beats t.tempo_values (pos 0) usable.beats_in usable.starts usable.rise (omega arith) refl

  -- before any tempo is passed the tempo in force is the first one, wherever the walk begins
  early-same : (s : State) → s.tempos ≡ 0 → nat_abs s.row ≤ most_row → Low s.row → early_tempo t.tempo_beats t.tempo_values s ≡ early
  unfolding early_tempo
  early-same s none near low =
      rw (eq-eqb s.tempos 0 none) (first_in_force t.tempo_beats t.tempo_values s.row usable.beats_in usable.starts usable.rise near low) ∙ sym begins-early

  module _ (q r : ℤ) (near : nat_abs q ≤ most_row) (later : lt_z r q ≡ false) where
    abbrev reached : State
    reached = (walk t q fresh).state

    low : Early reached
    unfolding walk fresh_state
    low = stays-early early t usable.some usable.first q fresh 0 (λ _. refl)

    -- the tempo that the next walk begins with makes no difference
    as_early : walk t r reached ≡ walk_on early t r reached 0
    unfolding walk
    as_early =
        ⊎_elim (λ none. ap (λ (x : Float). walk_on x t r reached 0) (early-same reached none (usable.near q near) (low none)))
        (λ some. early-apart (early_tempo t.tempo_beats t.tempo_values reached) early t r reached 0 some)
        (eq-zero-or-pos reached.tempos)

    whole : walk t r fresh ≡ walk_on early t r reached (walk t q fresh).passed
    unfolding walk
    whole = walked_on early t q r later fresh 0

    pub on-state : (walk t r reached).state ≡ (walk t r fresh).state
    on-state = ap (λ (w : Walked). w.state) as_early ∙ same-state early t r reached 0 (walk t q fresh).passed ∙ sym (ap (λ (w : Walked). w.state) whole)

    pub on-time : (walk t r reached).time ≡ (walk t r fresh).time
    on-time = ap (λ (w : Walked). w.time) as_early ∙ same-time early t r reached 0 (walk t q fresh).passed ∙ sym (ap (λ (w : Walked). w.time) whole)

  -- ---- the cursors that questions leave behind
  pub data Reached (c : Cursor) : Type 0 where
    new : c ≡ fresh_cursor offset global → Reached c
    walked : nat_abs c.asked ≤ most_row → c.state ≡ (walk t c.asked fresh).state → Reached c

  module _ {A : Type 0} (part : Walked → A) (on-part : (q r : ℤ) → nat_abs q ≤ most_row → lt_z r q ≡ false → part (walk t r (walk t q fresh).state) ≡ part (walk t r fresh)) where
    ends : (c : Cursor) (r : ℤ) → Reached c → part (walk t r (beginning c r offset global)) ≡ part (walk t r fresh)
    unfolding beginning fresh_cursor
    ends c r (new e) = rw e (go (lt_z r (fresh_cursor offset global).asked))
      where
        go : (x : Bool) → part (walk t r (pick x fresh fresh)) ≡ part (walk t r fresh)
        go true = refl
        go false = refl
    ends c r (walked near e) = go (lt_z r c.asked) refl
      where
        go : (x : Bool) → lt_z r c.asked ≡ x → part (walk t r (pick x fresh c.state)) ≡ part (walk t r fresh)
        go true h = refl
        go false h = ap (λ (s : State). part (walk t r s)) e ∙ on-part c.asked r near h

  pub ends_there : (c : Cursor) (r : ℤ) → Reached c → (walk t r (beginning c r offset global)).state ≡ (walk t r fresh).state
  ends_there = ends (λ (w : Walked). w.state) on-state

  pub ends-then : (c : Cursor) (r : ℤ) → Reached c → (walk t r (beginning c r offset global)).time ≡ (walk t r fresh).time
  ends-then = ends (λ (w : Walked). w.time) on-time
