-- What SM's walk writes of raw lists that are taken is taken further on: its stops and its warps by row tidying, its tempos by tempo tidying and by the clock. Assumes nothing.
use Prim.Native.Nat.{◌≤◌, max}
use mathlib.Core.Bool.{true}
use mathlib.Core.List.{List, [], ◌∷◌, map}
use mathlib.Core.Path.{◌≡◌, refl}
use native.Mathlib.Nat.{max-le}
use native.Mathlib.Omega.{arith}
use lib.ListN.{length, length-map}
use lib.Dec.{lit≤}
use lib.Ieee.{Float, binary32}
use Rattle.ieee.proofs.Magnitude.{sized-within}
use Rattle.ieee.proofs.SizesAddUp.{at_most_wider}
use Rattle.limits.specs.declared.Range.{Range}
use Rattle.limits.specs.declared.Kind.TheVariants.{Beat, Value, TidyTempo, Tempo}
use Rattle.limits.specs.Numbers.{in_range, range_of, every, all_in}
use Rattle.limits.specs.Refusals.{list_number}
use Rattle.limits.proofs.ListTaken.{list-passes}
use Rattle.limits.proofs.TakenWithin.{within-taken}
use Rattle.order.specs.Entries.{first, second}
use Rattle.order.proofs.OrderedList.{Each}
use Rattle.order.proofs.EachEntry.{each_so}
use Rattle.process_raw.specs.RawLists.{raw_number, raw_numbers}
use Rattle.process_raw.proofs.BothTaken.{both-taken}
use Rattle.process_sm_changes.specs.SmChanges.{sm_changes}
use Rattle.process_sm_walk.specs.Chart.{processed}
use Rattle.rows.proofs.Allowed.{allowed-taken}
use Rattle.process_sm_laws.specs.Beats.{beat_key}
use Rattle.process_sm_laws.proofs.ArrowsKeepOrder.{OneOf, OnRow}
use Rattle.process_sm_laws.proofs.WrittenInOrder.{tempos-written, stops_on_rows, warps_on_rows}
use Rattle.process_sm_laws.proofs.ChangesTaken.{IsTempo, tempo_or_zero, changes-good, changes-most, in_order, on-beats, tempos_in, few-written}
use Rattle.process_sm_laws.proofs.ArrowsKeepBounds.{IsStop, IsLength}
use Rattle.process_sm_laws.proofs.WalkWithin.{Values, Fine, sixty-taken, all-lists}

-- ---- a list whose entries are each in range
module _ (range : Range) where
  beats_in_lem : (list : List (Float × Float)) → Each (beat_key binary32) (λ (e : Float × Float). in_range range e.0 ≡ true) list → all_in range (map first list) ≡ true
  unfolding every
  beats_in_lem [] p = refl
  beats_in_lem (e ∷ list) p = rw p.0 (beats_in_lem list p.1)

  values_in_lem : (list : List (Float × Float)) → Each (beat_key binary32) (λ (e : Float × Float). in_range range e.1 ≡ true) list → all_in range (map second list) ≡ true
  unfolding every
  values_in_lem [] p = refl
  values_in_lem (e ∷ list) p = rw p.0 (values_in_lem list p.1)

list-number : (beat value : Range) (list : List (Float × Float)) → length list ≤ 1024 → all_in beat (map first list) ≡ true → all_in value (map second list) ≡ true → list_number beat value (map first list) (map second list) ≡ 0
list-number beat value list few b v = list-passes beat value (map first list) (map second list) (simp length-map few) (simp length-map) b v

is_in : (range : Range) {P : Float → Type 0} → ((x : Float) → P x → in_range range x ≡ true) → (list : List (Float × Float)) → Values P list → all_in range (map second list) ≡ true
is_in range so list p = values_in_lem range list (each_so (beat_key binary32) (λ e h. so e.1 h) list p)

stop-taken : (x : Float) → IsStop x → in_range (range_of Value) x ≡ true
stop-taken x h = within-taken 30 x (sized-within 30 x h.small)

length_taken : (x : Float) → IsLength x → in_range (range_of Value) x ≡ true
length_taken x h = within-taken 30 x (sized-within 30 x (at_most_wider (lit≤ tt) h))

module _ (tempo_beats tempo_values stop_beats stop_values : List Float) (taken : raw_numbers tempo_beats tempo_values stop_beats stop_values ≡ 0) where
  abbrev tempos : List (Float × Float)
  tempos = sm_changes tempo_beats tempo_values

  abbrev stops : List (Float × Float)
  stops = sm_changes stop_beats stop_values

  t : raw_number tempo_beats tempo_values ≡ 0
  t = (both-taken taken).tempos

  s : raw_number stop_beats stop_values ≡ 0
  s = (both-taken taken).stops

  lists : Fine (processed tempos stops).stops (processed tempos stops).warps
  lists =
      all-lists tempos stops (changes-good tempo_beats tempo_values t) (in_order tempo_beats tempo_values t) (changes-good stop_beats stop_values s) (in_order stop_beats stop_values s)
      (changes-most tempo_beats tempo_values t) (changes-most stop_beats stop_values s)

  tempos-are : Each (beat_key binary32) (OneOf binary32 IsTempo) (processed tempos stops).tempos
  tempos-are = tempos-written binary32 IsTempo tempos stops (on-beats tempo_beats tempo_values t) (in_order tempo_beats tempo_values t) (on-beats stop_beats stop_values s) (in_order stop_beats stop_values s) sixty-taken (tempos_in tempo_beats tempo_values t)

  stops-are : Each (beat_key binary32) (OnRow binary32 IsTempo) (processed tempos stops).stops
  stops-are = stops_on_rows binary32 IsTempo tempos stops (on-beats tempo_beats tempo_values t) (in_order tempo_beats tempo_values t) (on-beats stop_beats stop_values s) (in_order stop_beats stop_values s) sixty-taken (tempos_in tempo_beats tempo_values t)

  warps-are : Each (beat_key binary32) (OnRow binary32 IsTempo) (processed tempos stops).warps
  warps-are = warps_on_rows binary32 IsTempo tempos stops (on-beats tempo_beats tempo_values t) (in_order tempo_beats tempo_values t) (on-beats stop_beats stop_values s) (in_order stop_beats stop_values s) sixty-taken (tempos_in tempo_beats tempo_values t)

  -- stops: at most 1,024, on allowed beats, above 0 and at most 2 ^ 30
  pub sm_stops_taken : list_number (range_of Beat) (range_of Value) (map first (processed tempos stops).stops) (map second (processed tempos stops).stops) ≡ 0
  sm_stops_taken =
      let out = (processed tempos stops).stops in
      list-number (range_of Beat) (range_of Value) out (omega (arith, (few-written tempo_beats tempo_values stop_beats stop_values t s).stops, changes-most stop_beats stop_values s))
      (beats_in_lem (range_of Beat) out (each_so (beat_key binary32) (λ e h. allowed-taken e.0 h) out stops-are))
      (is_in (range_of Value) stop-taken out lists.stops_are)

  pub sm_stops_above : Values IsStop (processed tempos stops).stops
  sm_stops_above = lists.stops_are

  -- warps: on allowed beats, and at most 44,739,244 beats long
  pub sm_warps_taken : (all_in (range_of Beat) (map first (processed tempos stops).warps) ≡ true) × (all_in (range_of Value) (map second (processed tempos stops).warps) ≡ true)
  sm_warps_taken =
      let out = (processed tempos stops).warps in (
        beats_in_lem (range_of Beat) out (each_so (beat_key binary32) (λ e h. allowed-taken e.0 h) out warps-are),
        is_in (range_of Value) length_taken out lists.warps_are,
      )

  pub sm_warps_short : Values IsLength (processed tempos stops).warps
  sm_warps_short = lists.warps_are

  -- tempos: at most 1,024, on allowed beats, none 0, from 2 ^ -20 to 2 ^ 30 in size
  most-tempos : length (processed tempos stops).tempos ≤ 1024
  most-tempos =
      let most : max (length tempos) 1 ≤ 1024 = max-le {a = length tempos} {b = 1} {k = 1024} (changes-most tempo_beats tempo_values t) (omega arith) in
      omega (arith, (few-written tempo_beats tempo_values stop_beats stop_values t s).tempos)

  pub sm_tempos_taken : list_number (range_of Beat) (range_of Tempo) (map first (processed tempos stops).tempos) (map second (processed tempos stops).tempos) ≡ 0
  sm_tempos_taken =
      let out = (processed tempos stops).tempos in
      list-number (range_of Beat) (range_of Tempo) out most-tempos
      (beats_in_lem (range_of Beat) out (each_so (beat_key binary32) (λ e h. allowed-taken e.0 h.0) out tempos-are))
      (values_in_lem (range_of Tempo) out (each_so (beat_key binary32) (λ e h. h.1) out tempos-are))

  -- and so tempo tidying takes them
  pub sm_tempos_tidied : list_number (range_of Beat) (range_of TidyTempo) (map first (processed tempos stops).tempos) (map second (processed tempos stops).tempos) ≡ 0
  sm_tempos_tidied =
      let out = (processed tempos stops).tempos in
      list-number (range_of Beat) (range_of TidyTempo) out most-tempos
      (beats_in_lem (range_of Beat) out (each_so (beat_key binary32) (λ e h. allowed-taken e.0 h.0) out tempos-are))
      (values_in_lem (range_of TidyTempo) out (each_so (beat_key binary32) (λ e h. tempo_or_zero e.1 h.1) out tempos-are))
