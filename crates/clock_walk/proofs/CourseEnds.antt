-- Where the course ends nothing is ahead, so that a tempo was passed where the first is on row 0. Assumes nothing.
use Rattle.clock_walk.specs.declared.Next.{Next}
use Rattle.std.proofs.Common.{◌≡◌, ℕ, zero, suc, ◌<◌, ◌≤◌, false, length, get_or, pos, sym, refl, ap, ◌∙◌, arith, Option, Some, None}
use lib.Signed.{lt_z}
use lib.Ieee.{Float, nan, binary64}
use Rattle.rows.specs.Rows.{row}
use Rattle.rows.proofs.RowOrder.{no}
use Rattle.chart.specs.Timing.{Timing}
use Rattle.clock_walk.specs.Events.{farthest, row_ahead, ahead}
use Rattle.clock_walk.specs.Passing.{early_tempo}
use Rattle.clock_walk.specs.Course.{is_found, onward, events_left, state_after, found_before, events_within, course}
use Rattle.clock_walk.specs.EndMark.{end_mark}
use Rattle.chart.specs.declared.State.{State}
use Rattle.clock_walk.proofs.EventByEvent.{left-falls}
use Rattle.clock_walk.proofs.BeforeAnyTempo.{tempo-ahead}

module _ (early : Float) (t : Timing) where
  ends_by : (f : ℕ) (a : Option Next) (s : State) → ahead t s ≡ a → events_left t s ≤ f → ahead t (state_after (length (events_within f early t s)) early t s) ≡ None
  unfolding events_within state_after
  ends_by zero (Some n) s e l = let k = left-falls early t s (ap is_found e) in absurd (omega arith)
  ends_by zero None s e l = e
  ends_by (suc f) (Some n) s e l =
      let k = left-falls early t s (ap is_found e) in
      ap (λ (a : Option Next). ahead t (state_after (length (found_before a (events_within f early t (onward early t s)))) early t s)) e
      ∙ ends_by f (ahead t (onward early t s)) (onward early t s) refl (omega arith)
  ends_by (suc f) None s e l = ap (λ (a : Option Next). ahead t (state_after (length (found_before a (events_within f early t (onward early t s)))) early t s)) e ∙ e

pub course-ends : (t : Timing) (s : State) → ahead t (end_mark t s).state ≡ None
unfolding end_mark course
course-ends t s = ends_by (early_tempo t.tempo_beats t.tempo_values s) t (events_left t s) (ahead t s) s refl (omega arith)

pub tempo-passed : (t : Timing) (s : State) → 0 < length t.tempo_beats → row binary64 (get_or t.tempo_beats 0 nan) ≡ pos 0 → 0 < (end_mark t s).state.tempos
tempo-passed t s some first = go (end_mark t s).state.tempos refl
  where
    none : (end_mark t s).state.tempos ≡ 0 → ⊥
    none z =
        let by : lt_z (row binary64 (get_or t.tempo_beats (end_mark t s).state.tempos nan)) (row_ahead (ahead t (end_mark t s).state)) ≡ false = tempo-ahead t (end_mark t s).state (rw z some) in
        let there : lt_z (pos 0) farthest ≡ false = rw (course-ends t s, z, first) at by in
        no (sym there)

    go : (n : ℕ) → (end_mark t s).state.tempos ≡ n → 0 < n
    go zero z = absurd (none z)
    go (suc n) z = omega arith
