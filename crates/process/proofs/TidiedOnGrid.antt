-- The tempos of raw lists that are taken, processed by either format: each on its row from beat 0 on, one after the other, and in SM an f32. Assumes nothing.
use Prim.Native.Nat.{ℕ, ◌≤◌}
use mathlib.Core.Path.{◌≡◌, refl, ◌∙◌}
use mathlib.Core.Bool.{Bool, true, false}
use mathlib.Core.List.{List, [], ◌∷◌, map}
use native.Mathlib.Omega.{arith}
use lib.Ieee.{Float, binary64, eq, of_bits}
use Rattle.ieee.specs.Constants.{plus_zero, sixty}
use Rattle.picks.specs.Pick.{pick}
use Rattle.rows.specs.Rows.{quantized}
use Rattle.limits.proofs.ListTaken.{list-taken}
use Rattle.order.specs.Order.{Above, Rises, tidied}
use Rattle.order.specs.Entries.{entries, first, second}
use Rattle.order.specs.FloatKey.{float_key}
use Rattle.order.proofs.Columns.{entries-columns}
use Rattle.order.proofs.OrderedList.{Each}
use Rattle.order.proofs.EachEntry.{each_so, each-tidied}
use Rattle.order.proofs.TidiedList.{tidied-rises}
use Rattle.tidy_tempos.specs.TempoTidying.{beat_key_of, from_zero_else, changes_after, changes, tidy_tempos}
use Rattle.process_raw.specs.RawLists.{raw_numbers}
use Rattle.process_raw.proofs.BothTaken.{both-taken}
use Rattle.process_ssc.specs.Ssc.{stayed_ssc}
use Rattle.process_sm_walk_raw.specs.RawWalk.{sm_written}
use Rattle.chart.specs.declared.TimingFormat.{TimingFormat}
use Rattle.chart.specs.declared.TimingFormat.TheVariants.{Sm, Ssc}
use Rattle.process.specs.ByFormat.{tempo_beats_of, tempo_values_of, lists_by, processed_lists}
use Rattle.process.proofs.NoneGiven.{given-number}
use Rattle.process.proofs.TemposOnGrid.{OnGrid, Narrowed, SmTempo, zero_on_row, zero-allowed, sixty-taken, sm_narrowed, ssc_grid, sm_grid}

pub record Tidied (Kind : Float → Type 0) (list : List (Float × Float)) : Type 0 where
  pub rising : Rises beat_key_of list
  pub each : Each beat_key_of (OnGrid Kind) list

-- ---- the first moved to beat 0

lower-above : (j k : ℕ) (list : List (Float × Float)) → j ≤ k → Above beat_key_of k list → Above beat_key_of j list
lower-above j k [] h a = tt
lower-above j k (x ∷ list) h a = (omega (arith, a.0), lower-above j k list h a.1)

-- ---- only changes kept

above-changes : (k : ℕ) (value : Float) (list : List (Float × Float)) → Above beat_key_of k list → Above beat_key_of k (changes_after value list)
unfolding changes_after
above-changes k value [] a = tt
above-changes k value (e ∷ list) a = go (eq e.1 value) (above-changes k value list a.1) (above-changes k e.1 list a.1)
  where
    go : (t : Bool) → Above beat_key_of k (changes_after value list) → Above beat_key_of k (changes_after e.1 list) → Above beat_key_of k (pick t (changes_after value list) (e ∷ changes_after e.1 list))
    go true x y = x
    go false x y = (a.0, y)

rises-changes : (value : Float) (list : List (Float × Float)) → Rises beat_key_of list → Rises beat_key_of (changes_after value list)
unfolding changes_after
rises-changes value [] r = tt
rises-changes value (e ∷ list) r = go (eq e.1 value) (rises-changes value list r.1) (rises-changes e.1 list r.1) (above-changes (beat_key_of e) e.1 list r.0)
  where
    go : (t : Bool) → Rises beat_key_of (changes_after value list) → Rises beat_key_of (changes_after e.1 list) → Above beat_key_of (beat_key_of e) (changes_after e.1 list) → Rises beat_key_of (pick t (changes_after value list) (e ∷ changes_after e.1 list))
    go true x y z = x
    go false x y z = (z, y)

-- ---- the tidied list

module _ (Kind : Float → Type 0) where
  each-changes : (value : Float) (list : List (Float × Float)) → Each beat_key_of (OnGrid Kind) list → Each beat_key_of (OnGrid Kind) (changes_after value list)
  unfolding changes_after
  each-changes value [] p = tt
  each-changes value (e ∷ list) p = go (eq e.1 value) (each-changes value list p.1) (each-changes e.1 list p.1)
    where
      go : (t : Bool) → Each beat_key_of (OnGrid Kind) (changes_after value list) → Each beat_key_of (OnGrid Kind) (changes_after e.1 list) → Each beat_key_of (OnGrid Kind) (pick t (changes_after value list) (e ∷ changes_after e.1 list))
      go true x y = x
      go false x y = (p.0, y)

  at_zero : (tempo : Float) → Kind tempo → OnGrid Kind (plus_zero, tempo)
  at_zero tempo v = record { beat_on_row = zero_on_row; allowed = zero-allowed; forth = omega arith; tempo = v }

  from_zero : (list : List (Float × Float)) → Each beat_key_of (OnGrid Kind) list → Rises beat_key_of list → Tidied Kind (changes (from_zero_else list))
  unfolding changes from_zero_else
  from_zero [] p r = record { rising = tt; each = tt }
  from_zero (e ∷ list) p r =
      let above = above-changes (float_key binary64 plus_zero) e.1 list (lower-above (float_key binary64 plus_zero) (beat_key_of e) list p.0.forth r.0) in
      record { rising = (above, rises-changes e.1 list r.1); each = (at_zero e.1 p.0.tempo, each-changes e.1 list p.1) }

  tempos-tidied : (beats values : List Float) → Kind sixty → Each beat_key_of (OnGrid Kind) (entries beats values) → Tidied Kind (tidy_tempos beats values)
  unfolding tidy_tempos
  tempos-tidied [] values s p = record { rising = (tt, tt); each = (at_zero sixty s, tt) }
  tempos-tidied (b ∷ beats) values s p =
      let all = entries (b ∷ beats) values in
      from_zero (tidied beat_key_of all) (each-tidied beat_key_of (OnGrid Kind) all p) (tidied-rises beat_key_of all)

-- ---- by format

sixty-is : SmTempo sixty
unfolding of_bits
sixty-is = sixty-taken

pub sm_tidied : (tempo_beats tempo_values stop_beats stop_values : List Float) → raw_numbers tempo_beats tempo_values stop_beats stop_values ≡ 0 → Tidied SmTempo (lists_by Sm tempo_beats tempo_values stop_beats stop_values).tempos
sm_tidied tempo_beats tempo_values stop_beats stop_values h =
    let both = both-taken h in
    let out = (sm_written tempo_beats tempo_values stop_beats stop_values).tempos in
    tempos-tidied SmTempo (map first out) (map second out) sixty-is (rw (entries-columns out) (sm_grid tempo_beats tempo_values stop_beats stop_values both.tempos both.stops))

narrowed_on_grid : (e : Float × Float) → OnGrid SmTempo e → OnGrid Narrowed e
narrowed_on_grid e g = record { beat_on_row = g.beat_on_row; allowed = g.allowed; forth = g.forth; tempo = sm_narrowed e.1 g.tempo }

by_format : (format : TimingFormat) (tempo_beats tempo_values stop_beats stop_values : List Float) → raw_numbers tempo_beats tempo_values stop_beats stop_values ≡ 0 → Tidied Narrowed (lists_by format tempo_beats tempo_values stop_beats stop_values).tempos
by_format Sm tempo_beats tempo_values stop_beats stop_values h =
    let tidy = sm_tidied tempo_beats tempo_values stop_beats stop_values h in
    record { rising = tidy.rising; each = each_so beat_key_of narrowed_on_grid (lists_by Sm tempo_beats tempo_values stop_beats stop_values).tempos tidy.each }
by_format Ssc tempo_beats tempo_values stop_beats stop_values h =
    let raw = list-taken (both-taken h).tempos in
    let out = stayed_ssc tempo_beats tempo_values in
    tempos-tidied Narrowed (map first out) (map second out) (sm_narrowed sixty sixty-is) (rw (entries-columns out) (ssc_grid tempo_beats tempo_values raw.beats_in raw.values_in))

pub processed-tidied : (format : TimingFormat) (tempo_beats tempo_values stop_beats stop_values : List Float) → raw_numbers tempo_beats tempo_values stop_beats stop_values ≡ 0 → Tidied Narrowed (processed_lists format tempo_beats tempo_values stop_beats stop_values).tempos
unfolding processed_lists
processed-tidied format tempo_beats tempo_values stop_beats stop_values h =
    by_format format (tempo_beats_of tempo_beats tempo_values) (tempo_values_of tempo_beats tempo_values) stop_beats stop_values (given-number tempo_beats tempo_values stop_beats stop_values ∙ h)

on-rows : (list : List (Float × Float)) → Each beat_key_of (OnGrid Narrowed) list → map quantized (map first list) ≡ map first list
on-rows [] p = refl
on-rows (e ∷ list) p = rw (p.0.beat_on_row, on-rows list p.1)

-- quantising their beats again changes nothing
pub tempos_on_rows_lem : (format : TimingFormat) (tempo_beats tempo_values stop_beats stop_values : List Float) → raw_numbers tempo_beats tempo_values stop_beats stop_values ≡ 0
    → map quantized (map first (processed_lists format tempo_beats tempo_values stop_beats stop_values).tempos) ≡ map first (processed_lists format tempo_beats tempo_values stop_beats stop_values).tempos
tempos_on_rows_lem format tempo_beats tempo_values stop_beats stop_values h =
    on-rows (processed_lists format tempo_beats tempo_values stop_beats stop_values).tempos (processed-tidied format tempo_beats tempo_values stop_beats stop_values h).each
