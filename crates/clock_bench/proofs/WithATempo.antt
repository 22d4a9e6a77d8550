-- The tempo of 60 of a timing that has none: its first tempo, and the timing whose tempos are chosen. Assumes nothing.
use Rattle.std.proofs.Common.{◌≡◌, ◌+◌, ◌*◌, Bool, true, false, eqb, List, [], ◌∷◌, length, get_or, refl, arith}
use lib.Ieee.{Float, nan}
use Rattle.ieee.specs.Constants.{plus_zero, sixty}
use Rattle.picks.specs.Pick.{pick}
use Rattle.chart.specs.Timing.{Timing, timing}
use Rattle.clock_bench.specs.EventList.{with_a_tempo, most_events}
use Rattle.clock_bench.specs.BenchQuestion.{tempo_at_the_start}

pub first-none : (values : List Float) → length values ≡ 0 → sixty ≡ tempo_at_the_start values
first-none [] h = refl
first-none (v ∷ values) h = absurd (omega (arith, h))

pub first_some : (values : List Float) → (length values ≡ 0 → ⊥) → get_or values 0 nan ≡ tempo_at_the_start values
first_some [] h = absurd (h refl)
first_some (v ∷ values) h = refl

module _ (t : Timing) where
  -- the columns, the tempos replaced
  abbrev tempoed : List Float → List Float → Timing
  tempoed beats tempos = timing beats tempos t.stop_beats t.stop_values t.delay_beats t.delay_values t.warp_beats t.warp_lengths

  pub chosen : (beats tempos : List Float)
      → beats ≡ pick (eqb (length t.tempo_beats) 0) (plus_zero ∷ []) t.tempo_beats
      → tempos ≡ pick (eqb (length t.tempo_beats) 0) (sixty ∷ []) t.tempo_values
      → tempoed beats tempos ≡ with_a_tempo t
  unfolding with_a_tempo
  chosen beats tempos e f = rw (e, f) (by (eqb (length t.tempo_beats) 0))
    where
      by : (b : Bool) → tempoed (pick b (plus_zero ∷ []) t.tempo_beats) (pick b (sixty ∷ []) t.tempo_values) ≡ pick b (tempoed (plus_zero ∷ []) (sixty ∷ [])) t
      by true = refl
      by false = refl

  pub most-filled : most_events (with_a_tempo t) ≡ pick (eqb (length t.tempo_beats) 0) 1 (length t.tempo_beats) + length t.stop_beats + length t.delay_beats + 2 * length t.warp_beats
  unfolding most_events with_a_tempo
  most-filled = by (eqb (length t.tempo_beats) 0)
    where
      by : (b : Bool) → most_events (pick b (tempoed (plus_zero ∷ []) (sixty ∷ [])) t) ≡ pick b 1 (length t.tempo_beats) + length t.stop_beats + length t.delay_beats + 2 * length t.warp_beats
      by true = refl
      by false = refl
