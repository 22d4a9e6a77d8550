-- Of raw lists that are taken, the processed ones are no longer than they may be, and are taken further on: stops by row tidying, made warps by their beats and lengths. Assumes nothing.
use Prim.Native.Nat.{ℕ, ◌+◌, ◌≤◌, max}
use mathlib.Core.Path.{◌≡◌, refl, ◌∙◌}
use mathlib.Core.Bool.{true}
use mathlib.Core.List.{List, [], ◌∷◌, map}
use native.Mathlib.Omega.{arith}
use lib.ListN.{length, length-map}
use lib.Ieee.{Float}
use Rattle.ieee.proofs.Magnitude.{sized-within}
use Rattle.rows.specs.Rows.{quantized}
use Rattle.limits.specs.declared.Range.{Range}
use Rattle.limits.specs.declared.Kind.TheVariants.{Beat, Value, TidyTempo}
use Rattle.limits.specs.Numbers.{range_of, in_range, all_in, every}
use Rattle.limits.specs.Refusals.{list_number}
use Rattle.limits.proofs.Every.{every_rest}
use Rattle.limits.proofs.ListTaken.{list-taken, list-passes}
use Rattle.limits.proofs.TakenWithin.{within-taken}
use Rattle.limits.proofs.TempoSizes.{tempo_at_most}
use Rattle.order.specs.Entries.{entries, first, second}
use Rattle.order.proofs.EachEntry.{each_so}
use Rattle.columns.proofs.KeptLaid.{few-kept}
use Rattle.process_raw.specs.RawLists.{raw_number, raw_numbers}
use Rattle.process_raw.proofs.BothTaken.{both-taken}
use Rattle.process_ssc.specs.Ssc.{stays_ssc, quantized_entry, stayed_ssc}
use Rattle.process_ssc.proofs.TemposTaken.{tempos-taken}
use Rattle.process_sm_changes.specs.SmChanges.{sm_changes}
use Rattle.process_sm_laws.proofs.ChangesTaken.{changes-good, changes-most, few-changes, in_order, few-written}
use Rattle.process_sm_laws.proofs.WalkWithin.{GoodChange, all-good}
use Rattle.process_sm_machine.specs.declared.Change.{Change}
use Rattle.process_sm_machine.specs.Machine.{beat_at}
use Rattle.process_sm_walk.specs.Chart.{opening_places}
use Rattle.process_sm_walk.specs.Changes.{changes_left}
use Rattle.process_sm_laws.specs.Beats as beats
use Rattle.process_sm_laws.proofs.AssemblyTakes.{sm_stops_taken, sm_warps_taken}
use Rattle.process_sm_laws.proofs.ChangesInOrder.{change_key}
use Rattle.process_sm_walk_raw.specs.RawWalk.{sm_written}
use Rattle.process_sm.proofs.FewTidied.{entries-few, few-tidied}
use Rattle.chart.specs.declared.TimingFormat.{TimingFormat}
use Rattle.chart.specs.declared.TimingFormat.TheVariants.{Sm, Ssc}
use Rattle.process.specs.ListsTaken.{ListsTaken}
use Rattle.process.specs.ByFormat.{ThreeLists, tempo_beats_of, tempo_values_of, lists_by, processed_lists}
use Rattle.process.proofs.NoneGiven.{given-number, given-length}
use Rattle.process.proofs.ChangesF32.{changes_f32, all_f32}
use Rattle.process.proofs.StopsOnRows.{sm_on_rows, ssc_on_rows}

-- ---- by format

tempo-taken : (x : Float) → in_range (range_of TidyTempo) x ≡ true → in_range (range_of Value) x ≡ true
tempo-taken x h = within-taken 30 x (sized-within 30 x (tempo_at_most true x h))

all-values : (values : List Float) → all_in (range_of TidyTempo) values ≡ true → all_in (range_of Value) values ≡ true
unfolding every
all-values [] h = refl
all-values (x ∷ values) h = let xs = every_rest (in_range (range_of TidyTempo)) x values h in rw (tempo-taken x xs.0) (all-values values xs.1)

none-outside : (range : Range) → all_in range [] ≡ true
unfolding every
none-outside range = refl

module _ (tempo_beats tempo_values stop_beats stop_values : List Float) (t : raw_number tempo_beats tempo_values ≡ 0) (s : raw_number stop_beats stop_values ≡ 0) (both : raw_numbers tempo_beats tempo_values stop_beats stop_values ≡ 0) where
  ssc-taken : ListsTaken (length tempo_beats) (length stop_beats) (lists_by Ssc tempo_beats tempo_values stop_beats stop_values)
  ssc-taken =
      let passed = list-taken (tempos-taken stop_beats stop_values s) in
      let tempos = stayed_ssc tempo_beats tempo_values in
      let few = few-tidied (map first tempos) (map second tempos) in
      let stay = few-kept stays_ssc quantized_entry (entries tempo_beats tempo_values) in
      record {
        few_tempos = omega (arith, few, length-map tempos first, stay, entries-few tempo_beats tempo_values);
        few_stops = omega (arith, few-kept stays_ssc quantized_entry (entries stop_beats stop_values), entries-few stop_beats stop_values);
        few_warps = omega arith;
        stops = list-passes (range_of Beat) (range_of Value) (map first (stayed_ssc stop_beats stop_values)) (map second (stayed_ssc stop_beats stop_values)) passed.few passed.even passed.beats_in (all-values (map second (stayed_ssc stop_beats stop_values)) passed.values_in);
        on_rows = ssc_on_rows stop_beats stop_values (list-taken s).beats_in;
        warp_beats = none-outside (range_of Beat);
        warp_lengths = none-outside (range_of Value);
      }

  sm_taken : ListsTaken (length tempo_beats) (length stop_beats) (lists_by Sm tempo_beats tempo_values stop_beats stop_values)
  sm_taken =
      let T = sm_changes tempo_beats tempo_values in
      let S = sm_changes stop_beats stop_values in
      let few = few-written tempo_beats tempo_values stop_beats stop_values t s in
      let few_t = few-changes tempo_beats tempo_values t in
      let few_s = few-changes stop_beats stop_values s in
      let out = (sm_written tempo_beats tempo_values stop_beats stop_values).tempos in
      let good = all-good T S (changes-good tempo_beats tempo_values t) (in_order tempo_beats tempo_values t) (changes-good stop_beats stop_values s) (in_order stop_beats stop_values s) (changes-most tempo_beats tempo_values t) (changes-most stop_beats stop_values s) in
      record {
        few_tempos = omega (arith, few-tidied (map first out) (map second out), length-map out first, few.tempos);
        few_stops = omega (arith, few.stops);
        few_warps = omega (arith, few.warps);
        stops = sm_stops_taken tempo_beats tempo_values stop_beats stop_values both;
        on_rows = sm_on_rows T S (each_so change_key {P = GoodChange} {Q = λ (change : Change). beats.Beat (beat_at change)} (λ e g. g.0) (changes_left T S (opening_places T S)) good) (all_f32 T S (changes_f32 tempo_beats tempo_values) (changes_f32 stop_beats stop_values));
        warp_beats = (sm_warps_taken tempo_beats tempo_values stop_beats stop_values both).0;
        warp_lengths = (sm_warps_taken tempo_beats tempo_values stop_beats stop_values both).1;
      }

by_format : (format : TimingFormat) (tempo_beats tempo_values stop_beats stop_values : List Float) → raw_numbers tempo_beats tempo_values stop_beats stop_values ≡ 0 → ListsTaken (length tempo_beats) (length stop_beats) (lists_by format tempo_beats tempo_values stop_beats stop_values)
by_format Sm tempo_beats tempo_values stop_beats stop_values h = sm_taken tempo_beats tempo_values stop_beats stop_values (both-taken h).tempos (both-taken h).stops h
by_format Ssc tempo_beats tempo_values stop_beats stop_values h = ssc-taken tempo_beats tempo_values stop_beats stop_values (both-taken h).tempos (both-taken h).stops h

-- ---- with 60 at beat 0 where no tempo is given

pub lists-taken : (format : TimingFormat) (tempo_beats tempo_values stop_beats stop_values : List Float) → raw_numbers tempo_beats tempo_values stop_beats stop_values ≡ 0
    → ListsTaken (max (length tempo_beats) 1) (length stop_beats) (processed_lists format tempo_beats tempo_values stop_beats stop_values)
unfolding processed_lists
lists-taken format tempo_beats tempo_values stop_beats stop_values h =
    let l = by_format format (tempo_beats_of tempo_beats tempo_values) (tempo_values_of tempo_beats tempo_values) stop_beats stop_values (given-number tempo_beats tempo_values stop_beats stop_values ∙ h) in
    let few = given-length tempo_beats tempo_values in
    record {
      few_tempos = omega (arith, l.few_tempos, few);
      few_stops = l.few_stops;
      few_warps = omega (arith, l.few_warps, few);
      stops = l.stops;
      on_rows = l.on_rows;
      warp_beats = l.warp_beats;
      warp_lengths = l.warp_lengths;
    }
