-- The front of four columns as f32: how long it is, its columns, and a result that was laid there, read back. Assumes nothing.
use Prim.Native.Nat.{ℕ, zero, suc, ◌≤◌, min}
use mathlib.Core.Path.{◌≡◌, refl, sym, ap, ap₂, ◌∙◌}
use mathlib.Core.List.{List, [], ◌∷◌, map, map-map}
use native.Mathlib.Omega.{arith}
use lib.ListN.{length, take, length-map}
use lib.Seq.{length-take-le}
use lib.Ieee.{Float}
use Rattle.ieee.specs.Narrowing.{narrow}
use Rattle.order.specs.Order.{laid}
use Rattle.order.specs.Entries.{entries, first, second}
use Rattle.order.proofs.Columns.{length-entries, first-entries, second-entries}
use Rattle.columns.specs.Each.{laid_each}
use Rattle.columns.proofs.EachOverFront.{each_over_front}
use Rattle.chart.specs.ChartColumns.{SpeedColumns, speed_columns}
use Rattle.tidy_kept.proofs.ColumnsPlaced.{entries-take}
use Rattle.tidy_speeds_entries.specs.Speed.{SpeedEntry, speed_values, speed_entries}
use Rattle.tidy_speeds_entries.specs.LaidSpeeds.{ratio_of, delay_of, unit_of, least_of}
use Rattle.tidy_speeds_entries.proofs.SpeedColumns.{many-values, many-speeds}
use Rattle.assembly_rows.proofs.NarrowedFront.{front-laid}
use Rattle.assembly_speeds.specs.AssembledSpeeds.{narrowed_speed}
use Rattle.assembly_speeds.specs.inside.NarrowedSpeeds.{narrowed_speeds}

-- ---- rooms
pub least-within : (a b c d : ℕ) (n : ℕ) → n ≤ least_of a b c d → (n ≤ a) × (n ≤ b) × (n ≤ c) × (n ≤ d)
least-within a b c d n h = (omega arith, omega arith, omega arith, omega arith)

pub lesser-within : (count most n : ℕ) → n ≡ min count most → n ≤ most
lesser-within count most n h = omega arith

pub laid-front : {A B : Type 0} (f : A → B) (n : ℕ) (from : List A) (old : List B) → n ≤ length from → n ≤ length old → laid_each f (take n from) old ≡ laid (map f (take n from)) old
laid-front f n from old h k = each_over_front f (take n from) old (omega (arith, length-take-le n from h))

-- ---- fronts
take-there : {A : Type 0} (count n : ℕ) (l : List A) → n ≡ min count (length l) → take count l ≡ take n l
take-there zero zero l h = refl
take-there zero (suc n) l h = absurd (omega arith)
take-there (suc count) zero [] h = refl
take-there (suc count) zero (x ∷ l) h = absurd (omega arith)
take-there (suc count) (suc n) [] h = absurd (omega arith)
take-there (suc count) (suc n) (x ∷ l) h = ap (◌∷◌ x) (take-there count n l (omega arith))

module _ (n : ℕ) (beats ratios delays : List Float) (units : List ℕ) where
  take-speeds : speed_entries (take n beats) (take n ratios) (take n delays) (take n units) ≡ take n (speed_entries beats ratios delays units)
  take-speeds =
      ap (entries (take n beats)) (ap (entries (take n ratios)) (entries-take n delays units) ∙ entries-take n ratios (entries delays units)) ∙ entries-take n beats (speed_values ratios delays units)

-- ---- the columns of a list
module _ (beats ratios delays : List Float) (units : List ℕ) (r : length beats ≡ length ratios) (d : length beats ≡ length delays) (u : length beats ≡ length units) where
  abbrev list : List SpeedEntry
  list = speed_entries beats ratios delays units

  values_so_lem : map second list ≡ speed_values ratios delays units
  values_so_lem = second-entries beats (speed_values ratios delays units) (omega (arith, many-values ratios delays units))

  pub beats_so_lem : map first list ≡ beats
  beats_so_lem = first-entries beats (speed_values ratios delays units) (omega (arith, many-values ratios delays units))

  last-many : length (entries delays units) ≡ length delays
  last-many = length-entries delays units (sym d ∙ u)

  lasts_so : map second (speed_values ratios delays units) ≡ entries delays units
  lasts_so = second-entries ratios (entries delays units) (sym r ∙ d ∙ sym last-many)

  pub ratios_so_lem : map ratio_of list ≡ ratios
  ratios_so_lem = sym (map-map first second list) ∙ ap (map first) values_so_lem ∙ first-entries ratios (entries delays units) (sym r ∙ d ∙ sym last-many)

  pub delays_so_lem : map delay_of list ≡ delays
  delays_so_lem = sym (map-map first (λ (e : SpeedEntry). e.1.1) list) ∙ ap (map first) (sym (map-map second second list) ∙ ap (map second) values_so_lem ∙ lasts_so) ∙ first-entries delays units (omega arith)

  pub units_so_lem : map unit_of list ≡ units
  units_so_lem = sym (map-map second (λ (e : SpeedEntry). e.1.1) list) ∙ ap (map second) (sym (map-map second second list) ∙ ap (map second) values_so_lem ∙ lasts_so) ∙ second-entries delays units (omega arith)

-- ---- a front, narrowed
module _ (count n : ℕ) (l : SpeedColumns) (h : n ≡ min count (least_of (length l.beats) (length l.ratios) (length l.delays) (length l.units))) where
  abbrev front : List SpeedEntry
  front = speed_entries (take n l.beats) (take n l.ratios) (take n l.delays) (take n l.units)

  is : narrowed_speeds count l ≡ map narrowed_speed front
  is =
      ap (map narrowed_speed)
      (take-speeds count l.beats l.ratios l.delays l.units ∙ take-there count n (speed_entries l.beats l.ratios l.delays l.units) (omega (arith, many-speeds l.ratios l.delays l.units l.beats)) ∙ sym (take-speeds n l.beats l.ratios l.delays l.units))

  long : {A : Type 0} (column : List A) → n ≤ length column → length (take n column) ≡ n
  long column k = length-take-le n column k

  beats-long : length (take n l.beats) ≡ n
  beats-long = long l.beats (omega arith)

  with_ratios : length (take n l.beats) ≡ length (take n l.ratios)
  with_ratios = beats-long ∙ sym (long l.ratios (omega arith))

  with_delays : length (take n l.beats) ≡ length (take n l.delays)
  with_delays = beats-long ∙ sym (long l.delays (omega arith))

  with_units : length (take n l.beats) ≡ length (take n l.units)
  with_units = beats-long ∙ sym (long l.units (omega arith))

  pub front_length : length (narrowed_speeds count l) ≡ n
  front_length =
      ap length is ∙ length-map front narrowed_speed ∙ sym (length-map front first)
      ∙ ap length (beats_so_lem (take n l.beats) (take n l.ratios) (take n l.delays) (take n l.units) with_ratios with_delays with_units) ∙ beats-long

  pub front-beats : map first (narrowed_speeds count l) ≡ map narrow (take n l.beats)
  front-beats =
      ap (map first) is ∙ map-map first narrowed_speed front ∙ sym (map-map narrow first front)
      ∙ ap (map narrow) (beats_so_lem (take n l.beats) (take n l.ratios) (take n l.delays) (take n l.units) with_ratios with_delays with_units)

  pub front-ratios : map ratio_of (narrowed_speeds count l) ≡ map narrow (take n l.ratios)
  front-ratios =
      ap (map ratio_of) is ∙ map-map ratio_of narrowed_speed front ∙ sym (map-map narrow ratio_of front)
      ∙ ap (map narrow) (ratios_so_lem (take n l.beats) (take n l.ratios) (take n l.delays) (take n l.units) with_ratios with_delays with_units)

  pub front-delays : map delay_of (narrowed_speeds count l) ≡ map narrow (take n l.delays)
  front-delays =
      ap (map delay_of) is ∙ map-map delay_of narrowed_speed front ∙ sym (map-map narrow delay_of front)
      ∙ ap (map narrow) (delays_so_lem (take n l.beats) (take n l.ratios) (take n l.delays) (take n l.units) with_ratios with_delays with_units)

  pub front-units : map unit_of (narrowed_speeds count l) ≡ take n l.units
  front-units =
      ap (map unit_of) is ∙ map-map unit_of narrowed_speed front
      ∙ units_so_lem (take n l.beats) (take n l.ratios) (take n l.delays) (take n l.units) with_ratios with_delays with_units

-- ---- a result that lies over the fronts of four columns
speeds-back : (result : List SpeedEntry) → speed_entries (map first result) (map ratio_of result) (map delay_of result) (map unit_of result) ≡ result
unfolding entries
speeds-back [] = refl
speeds-back (e ∷ result) = ap (◌∷◌ e) (speeds-back result)

pub front_of_result : (result : List SpeedEntry) (old : SpeedColumns) (count : ℕ) → count ≡ length result
    → narrowed_speeds count (speed_columns (laid (map first result) old.beats) (laid (map ratio_of result) old.ratios) (laid (map delay_of result) old.delays) (laid (map unit_of result) old.units)) ≡ map narrowed_speed result
front_of_result result old count h =
    ap (map narrowed_speed)
    (ap₂ entries (front-laid (map first result) old.beats count (h ∙ sym (length-map result first)))
    (ap₂ entries (front-laid (map ratio_of result) old.ratios count (h ∙ sym (length-map result ratio_of)))
    (ap₂ entries (front-laid (map delay_of result) old.delays count (h ∙ sym (length-map result delay_of))) (front-laid (map unit_of result) old.units count (h ∙ sym (length-map result unit_of)))))
    ∙ speeds-back result)
