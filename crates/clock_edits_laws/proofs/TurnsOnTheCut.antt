-- What a fresh cursor answers turns on the first tempo and on the lists cut at the asked row, and from row 0 on that tempo is among them. Assumes nothing.
use Prim.Native.Nat.{◌<◌}
use mathlib.Core.List.{List, [], ◌∷◌}
use mathlib.Core.Bool.{Bool, true, false}
use mathlib.Core.Path.{◌≡◌, refl, ap, ◌∙◌}
use native.Mathlib.Omega.{arith}
use lib.Dec.{eqb}
use lib.ListN.{length, get_or}
use lib.IntN.{ℤ, pos}
use lib.Signed.{lt_z}
use lib.Ieee.{Float, nan, binary64}
use Rattle.ieee.specs.Constants.{sixty}
use Rattle.picks.specs.Pick.{pick}
use Rattle.rows.specs.Rows.{row}
use Rattle.chart.specs.Timing.{Timing}
use Rattle.chart.specs.declared.State.{State}
use Rattle.clock_walk.specs.Passing.{first_or, early_tempo}
use Rattle.clock_walk.specs.Walk.{walk_on, walk}
use Rattle.clock_walk.specs.declared.Walked.{Walked}
use Rattle.clock_walk.proofs.StaysWithin.{PlacesWithin}
use Rattle.clock_tests.specs.TimingNumbers.{rises, rises_from, timing_number, beat_number}
use Rattle.clock_tests.proofs.TimingTaken.{TimingTaken, timing-taken}
use Rattle.clock.specs.Question.{filled, fresh_state, fresh_cursor, beginning, answered, refused_with, reply, asking}
use Rattle.clock.specs.History.{of_all}
use Rattle.clock.specs.declared.Answer.{Answer}
use Rattle.clock_histories.specs.Demand.{alone}
use Rattle.clock_histories.proofs.FirstTempoInForce.{first_in_force}
use Rattle.clock_histories.proofs.WithATempo.{of_filled}
use Rattle.clock_histories.proofs.WhereAFreshOneEnds.{new}
use Rattle.clock_histories.proofs.WalksAreSound.{sound}
use Rattle.clock_histories.proofs.AnyQuestion.{as_asked}
use Rattle.clock_edits_laws.specs.AgreeingTimings.{entries_on, up_to_row}
use Rattle.clock_edits_laws.specs.EditsFurtherOn.{tempo_at_zero}
use Rattle.clock_edits_laws.proofs.Fronts.{cut}
use Rattle.clock_edits_laws.proofs.ReadsNoFurther.{reads_no_further}
use Rattle.clock_edits_laws.proofs.EntriesAtTheFront.{values_on, Ordered}

filled-ordered : (t : Timing) (offset global : Float) → TimingTaken t offset global → Ordered (filled t)
unfolding rises rises_from
filled-ordered t offset global h =
    of_filled Ordered t
    (record {
      tempos_even = refl;
      stops_even = h.stops.even;
      delays_even = h.delays.even;
      warps_even = h.warps.even;
      tempos_rise = refl;
      stops_rise = h.stops_rise;
      delays_rise = h.delays_rise;
      warps_rise = h.warps_rise;
    })
    (λ _. record {
      tempos_even = h.tempos.even;
      stops_even = h.stops.even;
      delays_even = h.delays.even;
      warps_even = h.warps.even;
      tempos_rise = h.tempos_rise;
      stops_rise = h.stops_rise;
      delays_rise = h.delays_rise;
      warps_rise = h.warps_rise;
    })

module _ (t : Timing) (offset global : Float) (taken : timing_number t offset global ≡ 0) where
  abbrev f : Timing
  f = filled t

  abbrev fresh : State
  fresh = fresh_state offset global

  pub ordered : Ordered f
  ordered = filled-ordered t offset global (timing-taken taken)

  -- a fresh walk begins with the first tempo
  begins : early_tempo f.tempo_beats f.tempo_values fresh ≡ tempo_at_zero t
  unfolding early_tempo fresh_state
  begins = let u = (sound taken).usable in first_in_force f.tempo_beats f.tempo_values (pos 0) u.beats_in u.starts u.rise (omega arith) refl

  none_passed : (g : Timing) → PlacesWithin g fresh
  unfolding fresh_state
  none_passed g = record { tempos = omega arith; stops = omega arith; delays = omega arith; warps = omega arith }

  -- so it turns on the first tempo, and on the lists cut at its row
  by-cut : (r : ℤ) → walk f r fresh ≡ walk_on (tempo_at_zero t) (cut r f) r fresh 0
  unfolding walk
  by-cut r = ap (λ (x : Float). walk_on x f r fresh 0) begins ∙ reads_no_further (tempo_at_zero t) f r fresh 0 (none_passed (cut r f))

  -- ---- the question of a fresh cursor
  abbrev pub answer : Float → Walked → Answer
  answer b w = pick (eqb (beat_number b) 0) (answered global (row binary64 b) w) (refused_with (beat_number b) (fresh_cursor offset global))

  fresh-begins : (r : ℤ) → beginning (fresh_cursor offset global) r offset global ≡ fresh
  unfolding beginning fresh_cursor
  fresh-begins r = go (lt_z r (fresh_cursor offset global).asked)
    where
      go : (x : Bool) → pick x fresh fresh ≡ fresh
      go true = refl
      go false = refl

  pub fresh-answer : (b : Float) → alone t offset global b ≡ answer b (walk_on (tempo_at_zero t) (cut (row binary64 b) f) (row binary64 b) fresh 0)
  unfolding asking reply
  fresh-answer b =
      as_asked t offset global taken of_all (fresh_cursor offset global) b refl (new refl)
      ∙ ap (λ (s : State). answer b (walk f (row binary64 b) s)) (fresh-begins (row binary64 b))
      ∙ ap (answer b) (by-cut (row binary64 b))

  -- ---- from row 0 on the first tempo is among the entries up to the row
  first_of : (beats values : List Float) (r : ℤ) → row binary64 (get_or beats 0 nan) ≡ pos 0 → lt_z r (pos 0) ≡ false → 0 < length beats → length beats ≡ length values
      → first_or sixty (values_on (entries_on (up_to_row r) beats values)) ≡ first_or sixty values
  unfolding entries_on
  first_of [] values r first h some even = absurd (omega arith)
  first_of (b ∷ beats) [] r first h some even = absurd (omega arith)
  first_of (b ∷ beats) (v ∷ values) r first h some even = rw (first, h)

  pub first-within : (r : ℤ) → lt_z r (pos 0) ≡ false → first_or sixty (values_on (entries_on (up_to_row r) f.tempo_beats f.tempo_values)) ≡ tempo_at_zero t
  first-within r h = let u = (sound taken).usable in first_of f.tempo_beats f.tempo_values r u.first h u.some ordered.tempos_even
