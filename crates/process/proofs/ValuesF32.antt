-- The values of SM's tempos and stops, of raw lists that are taken, are f32s, and none is a NaN. Assumes nothing.
use mathlib.Core.Path.{◌≡◌, refl, ◌∙◌}
use mathlib.Core.Bool.{true, false, not, ◌&&◌}
use mathlib.Core.List.{List, [], ◌∷◌, map}
use lib.Dec.{T}
use lib.Ieee.{Float, binary32, fits, is_nan}
use lib.Ieee.Bits.{is_true}
use lib.Ieee.Fits.{and_i}
use Rattle.ieee.proofs.Values.{finite_number}
use Rattle.ieee.proofs.SizesAddUp.{at_most_finite}
use Rattle.limits.specs.Numbers.{every}
use Rattle.limits.proofs.TempoSizes.{tempo_at_most}
use Rattle.order.specs.Entries.{second}
use Rattle.order.proofs.OrderedList.{Each}
use Rattle.order.proofs.EachEntry.{each_so}
use Rattle.tidy_tempos.specs.TempoTidying.{beat_key_of}
use Rattle.process_raw.specs.RawLists.{raw_numbers}
use Rattle.process_raw.proofs.BothTaken.{both-taken}
use Rattle.process_sm_changes.specs.SmChanges.{sm_changes}
use Rattle.process_sm_machine.specs.declared.Change.{Change}
use Rattle.process_sm_machine.specs.Machine.{beat_at}
use Rattle.process_sm_walk.specs.Chart.{opening_places, processed}
use Rattle.process_sm_walk.specs.Changes.{changes_left}
use Rattle.process_sm_laws.specs.Beats.{Beat, beat_key}
use Rattle.process_sm_laws.proofs.ChangesInOrder.{change_key}
use Rattle.process_sm_laws.proofs.ChangesTaken.{changes-good, changes-most, in_order}
use Rattle.process_sm_laws.proofs.ArrowsKeepBounds.{IsStop}
use Rattle.process_sm_laws.proofs.WalkWithin.{GoodChange, Values, all-good}
use Rattle.process_sm_laws.proofs.AssemblyTakes.{sm_stops_above}
use Rattle.chart.specs.declared.TimingFormat.TheVariants.{Sm}
use Rattle.process.specs.ByFormat.{tempo_beats_of, tempo_values_of, lists_by, processed_lists}
use Rattle.process.proofs.NoneGiven.{given-number}
use Rattle.process.proofs.ChangesF32.{ValueF32, changes_f32, all_f32}
use Rattle.process.proofs.StopsOnRows.{sm_lengths_f32}
use Rattle.process.proofs.TemposOnGrid.{OnGrid, SmTempo}
use Rattle.process.proofs.TidiedOnGrid.{sm_tidied}

abbrev AllF32 : List Float → Type 0
AllF32 l = every (λ (x : Float). fits binary32 x && not (is_nan x)) l ≡ true

number_f32 : (x : Float) → T (fits binary32 x) → T (not (is_nan x)) → (fits binary32 x && not (is_nan x)) ≡ true
number_f32 x f n = is_true (fits binary32 x && not (is_nan x)) (and_i (fits binary32 x) (not (is_nan x)) f n)

tempos_f32 : (list : List (Float × Float)) → Each beat_key_of (OnGrid SmTempo) list → AllF32 (map second list)
unfolding every
tempos_f32 [] p = refl
tempos_f32 (e ∷ list) p = rw (number_f32 e.1 p.0.tempo.1 (finite_number e.1 (at_most_finite (tempo_at_most false e.1 p.0.tempo.0)))) (tempos_f32 list p.1)

stops_f32 : (list : List (Float × Float)) → Each (beat_key binary32) ValueF32 list → Values IsStop list → AllF32 (map second list)
unfolding every
stops_f32 [] p q = refl
stops_f32 (e ∷ list) p q = rw (number_f32 e.1 p.0 (finite_number e.1 (at_most_finite q.0.small))) (stops_f32 list p.1 q.1)

module _ (tempo_beats tempo_values stop_beats stop_values : List Float) (h : raw_numbers tempo_beats tempo_values stop_beats stop_values ≡ 0) where
  abbrev T' : List (Float × Float)
  T' = sm_changes tempo_beats tempo_values

  abbrev S' : List (Float × Float)
  S' = sm_changes stop_beats stop_values

  lengths_f32 : AllF32 (map second (processed T' S').stops)
  lengths_f32 =
      let t = (both-taken h).tempos in let s = (both-taken h).stops in
      let good = all-good T' S' (changes-good tempo_beats tempo_values t) (in_order tempo_beats tempo_values t) (changes-good stop_beats stop_values s) (in_order stop_beats stop_values s) (changes-most tempo_beats tempo_values t) (changes-most stop_beats stop_values s) in
      stops_f32 (processed T' S').stops
      (sm_lengths_f32 T' S' (each_so change_key {P = GoodChange} {Q = λ (change : Change). Beat (beat_at change)} (λ e g. g.0) (changes_left T' S' (opening_places T' S')) good) (all_f32 T' S' (changes_f32 tempo_beats tempo_values) (changes_f32 stop_beats stop_values)))
      (sm_stops_above tempo_beats tempo_values stop_beats stop_values h)

  both_f32 : AllF32 (map second (lists_by Sm tempo_beats tempo_values stop_beats stop_values).tempos) × AllF32 (map second (lists_by Sm tempo_beats tempo_values stop_beats stop_values).stops)
  both_f32 = (tempos_f32 (lists_by Sm tempo_beats tempo_values stop_beats stop_values).tempos (sm_tidied tempo_beats tempo_values stop_beats stop_values h).each, lengths_f32)

pub values_f32 : (tempo_beats tempo_values stop_beats stop_values : List Float) → raw_numbers tempo_beats tempo_values stop_beats stop_values ≡ 0
    → AllF32 (map second (processed_lists Sm tempo_beats tempo_values stop_beats stop_values).tempos) × AllF32 (map second (processed_lists Sm tempo_beats tempo_values stop_beats stop_values).stops)
unfolding processed_lists
values_f32 tempo_beats tempo_values stop_beats stop_values h =
    both_f32 (tempo_beats_of tempo_beats tempo_values) (tempo_values_of tempo_beats tempo_values) stop_beats stop_values (given-number tempo_beats tempo_values stop_beats stop_values ∙ h)
