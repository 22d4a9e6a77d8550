-- Mended speeds are assembled. Assumes nothing.
use Prim.Native.Nat.{ℕ, ◌≤◌}
use mathlib.Core.Path.{◌≡◌, refl, sym, ap, ◌∙◌}
use mathlib.Core.Bool.{Bool, true, false}
use mathlib.Core.List.{List, [], ◌∷◌, map}
use native.Mathlib.Omega.{arith}
use borrow.Author.Tests.{le-ltb, eq-eqb}
use lib.ListN.{length, length-map}
use lib.Ieee.{Float}
use Rattle.picks.specs.Pick.{pick}
use Rattle.limits.specs.declared.Kind.TheVariants.{Beat, Value}
use Rattle.limits.specs.Numbers.{range_of, in_range, all_in, is_unit, units_in, every}
use Rattle.limits.proofs.Every.{every_rest}
use Rattle.order.specs.Entries.{entries, first}
use Rattle.order.proofs.OrderedList.{Each}
use Rattle.rows.specs.Rows.{quantized}
use Rattle.rows.specs.RowKey.{row_key_at}
use Rattle.chart.specs.ChartColumns.{SpeedColumns}
use Rattle.tidy_kept.specs.Keeping.{row_of, nearby}
use Rattle.tidy_speeds_entries.specs.Speed.{SpeedEntry, near_speed, speed_entries, speeds_in}
use Rattle.tidy_speeds_entries.specs.LaidSpeeds.{ratio_of, delay_of, unit_of}
use Rattle.tidy_speeds_entries.proofs.SpeedColumns.{many-speeds}
use Rattle.tidy_speeds.specs.SpeedTidying.{values_number, speed_list_number}
use Rattle.tidy_speeds.proofs.ListTaken.{SpeedsTaken, speeds-taken}
use Rattle.tidy_speeds.proofs.Outcomes.{ordered-number}
use Rattle.assembly_speeds.proofs.QuantizedTaken.{speeds-pass}
use Rattle.mend_fates.specs.MendedLists.{mended_list}
use Rattle.mend_fates.proofs.MendedAgain.{no_longer}
use Rattle.mend_speeds.specs.MendedSpeeds.{mended_speeds, speed_tests}
use Rattle.mend_laws.specs.OnItsWay.{SpeedsOnTheirWay}
use Rattle.mend_laws.proofs.WrittenInOrder.{written-rises, each-written, beats-taken, narrowed_never_falls, ordered_way}

pub record Taken (e : SpeedEntry) : Type 0 where
  pub beat_in : in_range (range_of Beat) e.0 ≡ true
  pub ratio_in : in_range (range_of Value) (ratio_of e) ≡ true
  pub delay_in : in_range (range_of Value) (delay_of e) ≡ true
  pub unit_is : is_unit (unit_of e) ≡ true

abbrev key : SpeedEntry → ℕ
key = row_of row_key_at near_speed

-- ---- columns that are taken, entry by entry, and back
each-taken : (beats ratios delays : List Float) (units : List ℕ) → all_in (range_of Beat) beats ≡ true → all_in (range_of Value) ratios ≡ true → all_in (range_of Value) delays ≡ true → units_in units ≡ true
    → Each key Taken (speed_entries beats ratios delays units)
unfolding entries
each-taken [] ratios delays units b r d u = tt
each-taken (x ∷ beats) [] delays units b r d u = tt
each-taken (x ∷ beats) (p ∷ ratios) [] units b r d u = tt
each-taken (x ∷ beats) (p ∷ ratios) (q ∷ delays) [] b r d u = tt
each-taken (x ∷ beats) (p ∷ ratios) (q ∷ delays) (n ∷ units) b r d u =
    let beat = every_rest (in_range (range_of Beat)) x beats b in
    let ratio = every_rest (in_range (range_of Value)) p ratios r in
    let wait = every_rest (in_range (range_of Value)) q delays d in
    let unit = every_rest is_unit n units u in
    (record { beat_in = beat.0; ratio_in = ratio.0; delay_in = wait.0; unit_is = unit.0 }, each-taken beats ratios delays units beat.1 ratio.1 wait.1 unit.1)

passes : {B : Type 0} (test : B → Bool) (part : SpeedEntry → B) → ((e : SpeedEntry) → Taken e → test (part e) ≡ true) → (list : List SpeedEntry) → Each key Taken list → every test (map part list) ≡ true
unfolding every
passes test part so [] p = refl
passes test part so (e ∷ list) p = rw (so e p.0) (passes test part so list p.1)

each_first : (list : List SpeedEntry) → Each key Taken list → Each key (λ (e : SpeedEntry). in_range (range_of Beat) e.0 ≡ true) list
each_first [] p = tt
each_first (e ∷ list) p = (p.0.beat_in, each_first list p.1)

-- what 0 says of the values
told : (ratios delays units : Bool) → ◌≡◌ {A = ℕ} (pick ratios (pick delays (pick units 0 4) 4) 4) 0 → (ratios ≡ true) × (delays ≡ true) × (units ≡ true)
told true true true h = (refl, refl, refl)
told true true false h = absurd (omega arith)
told true false units h = absurd (omega arith)
told false delays units h = absurd (omega arith)

values-zero : (beats ratios delays : List Float) (units : List ℕ) → SpeedsTaken beats ratios delays units → speed_list_number beats ratios delays units ≡ 0 → values_number ratios delays units ≡ 0
unfolding speed_list_number
values-zero beats ratios delays units taken h =
    rw (le-ltb 1024 (length beats) taken.few, le-ltb 1024 (length ratios) (omega (arith, taken.ratios_even)), le-ltb 1024 (length delays) (omega (arith, taken.delays_even)), le-ltb 1024 (length units) (omega (arith, taken.units_even)), eq-eqb (length beats) (length ratios) taken.ratios_even, eq-eqb (length beats) (length delays) taken.delays_even, eq-eqb (length beats) (length units) taken.units_even, taken.beats_in) at h

values_in_lem : (ratios delays : List Float) (units : List ℕ) → values_number ratios delays units ≡ 0 → (all_in (range_of Value) ratios ≡ true) × (all_in (range_of Value) delays ≡ true) × (units_in units ≡ true)
unfolding values_number
values_in_lem ratios delays units h = told (all_in (range_of Value) ratios) (all_in (range_of Value) delays) (units_in units) h

-- columns of entries that are taken
list-passes : (list : List SpeedEntry) → length list ≤ 1024 → Each key Taken list → speed_list_number (map first list) (map ratio_of list) (map delay_of list) (map unit_of list) ≡ 0
unfolding speed_list_number values_number
list-passes list few p =
    rw (length-map list first, length-map list ratio_of, length-map list delay_of, length-map list unit_of, le-ltb 1024 (length list) few, eq-eqb (length list) (length list) refl)
    (rw (passes (in_range (range_of Beat)) first (λ e t. t.beat_in) list p, passes (in_range (range_of Value)) ratio_of (λ e t. t.ratio_in) list p, passes (in_range (range_of Value)) delay_of (λ e t. t.delay_in) list p, passes is_unit unit_of (λ e t. t.unit_is) list p))

-- ---- THE LAW
module _ (speeds : SpeedColumns) (h : speed_tests speeds ≡ 0) where
  abbrev list : List SpeedEntry
  list = mended_speeds speeds

  raw-taken : Each key Taken (speeds_in speeds)
  raw-taken =
      let values = values_in_lem speeds.ratios speeds.delays speeds.units (values-zero speeds.beats speeds.ratios speeds.delays speeds.units (speeds-taken h) h) in
      each-taken speeds.beats speeds.ratios speeds.delays speeds.units (speeds-taken h).beats_in values.0 values.1 values.2

  raw-beats : Each key (λ (e : SpeedEntry). in_range (range_of Beat) e.0 ≡ true) (speeds_in speeds)
  raw-beats = each_first (speeds_in speeds) raw-taken

  few-written : length list ≤ 1024
  unfolding mended_list
  few-written =
      omega (arith, no_longer (row_of row_key_at near_speed) (nearby row_key_at near_speed) (speeds_in speeds), many-speeds speeds.ratios speeds.delays speeds.units speeds.beats, (speeds-taken h).few)

  -- what is written is taken
  pub written-taken : speed_list_number (map first list) (map ratio_of list) (map delay_of list) (map unit_of list) ≡ 0
  written-taken = list-passes list few-written (each-written near_speed Taken (speeds_in speeds) raw-taken)

  pub speeds_on_their_way : SpeedsOnTheirWay speeds
  speeds_on_their_way = record {
    rising = written-rises near_speed (speeds_in speeds);
    narrowed = narrowed_never_falls near_speed (speeds_in speeds) raw-beats;
    assembled =
        ordered-number (map quantized (map first list)) (map ratio_of list) (map delay_of list) (map unit_of list)
        (speeds-pass (map first list) (map ratio_of list) (map delay_of list) (map unit_of list) written-taken) (ordered_way near_speed (speeds_in speeds) raw-beats);
  }
