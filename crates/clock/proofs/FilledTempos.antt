-- A timing whose tempos are chosen, its own or the one of 60, is the filled one, and the events that a walk passes there can be counted. Assumes nothing.
use Prim.Native.Nat.{◌+◌, ◌*◌, ◌^◌, ◌<◌}
use mathlib.Core.Bool.{Bool, true, false}
use mathlib.Core.List.{List, [], ◌∷◌}
use mathlib.Core.Path.{◌≡◌, refl}
use native.Mathlib.Omega.{arith}
use lib.Dec.{eqb}
use lib.IntN.{ℤ}
use lib.ListN.{length}
use lib.Ieee.{Float}
use Rattle.ieee.specs.Constants.{plus_zero, sixty}
use Rattle.picks.specs.Pick.{pick}
use Rattle.chart.specs.Timing.{Timing, timing}
use Rattle.clock_walk.specs.Walk.{walk}
use Rattle.chart.specs.declared.State.{State}
use Rattle.clock_walk.specs.declared.Walked.{Walked}
use Rattle.clock_walk.proofs.EventsSpent.{passed-fits}
use Rattle.clock.specs.Question.{filled}

-- the columns of a timing, its tempos replaced
abbrev pub tempoed : Timing → List Float → List Float → Timing
tempoed t beats tempos =
    timing beats tempos t.stop_beats t.stop_values t.delay_beats t.delay_values t.warp_beats t.warp_lengths

module _ (t : Timing) where
  pub filled-by : (beats tempos : List Float)
      → beats ≡ pick (eqb (length t.tempo_beats) 0) (plus_zero ∷ []) t.tempo_beats
      → tempos ≡ pick (eqb (length t.tempo_beats) 0) (sixty ∷ []) t.tempo_values
      → tempoed t beats tempos ≡ filled t
  unfolding filled
  filled-by beats tempos e f = rw (e, f) (by (eqb (length t.tempo_beats) 0))
    where
      by : (b : Bool) → tempoed t (pick b (plus_zero ∷ []) t.tempo_beats) (pick b (sixty ∷ []) t.tempo_values) ≡ pick b (tempoed t (plus_zero ∷ []) (sixty ∷ [])) t
      by true = refl
      by false = refl

  pub filled-fits : (w : Walked) (r : ℤ) (s : State) → w ≡ walk (filled t) r s
      → length t.tempo_beats * 4 < 2 ^ 63 → length t.stop_beats * 4 < 2 ^ 63 → length t.delay_beats * 4 < 2 ^ 63 → length t.warp_beats * 4 < 2 ^ 63 → w.passed + 1 < 2 ^ 64
  unfolding filled
  filled-fits w r s e k l m n = by (eqb (length t.tempo_beats) 0) e
    where
      by : (b : Bool) → w ≡ walk (pick b (tempoed t (plus_zero ∷ []) (sixty ∷ [])) t) r s → w.passed + 1 < 2 ^ 64
      by true e = passed-fits w (tempoed t (plus_zero ∷ []) (sixty ∷ [])) r s e (omega arith) l m n
      by false e = passed-fits w t r s e k l m n
