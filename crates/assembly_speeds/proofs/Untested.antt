-- Speeds that are not tested first are laid each by itself or assembled, and where the list is taken both are the same, and so are both numbers. Assumes nothing.
use Prim.Native.Nat.{ℕ, ◌≤◌, ◌<◌}
use mathlib.Core.Path.{◌≡◌, refl, sym, ap, ap₂, ◌∙◌}
use mathlib.Core.Bool.{Bool, true, false}
use mathlib.Core.List.{List, [], ◌∷◌, map}
use mathlib.Core.Logic.{⊎_elim}
use borrow.Author.Tests.{eq-eqb, le-leb, lt-leb, eqb-true}
use native.Mathlib.Omega.{arith}
use lib.Dec.{eqb}
use lib.ListN.{length, length-map}
use lib.Ieee.{Float}
use Rattle.picks.specs.Pick.{pick}
use Rattle.ieee.specs.Narrowing.{narrow}
use Rattle.rows.specs.Rows.{quantized}
use Rattle.limits.specs.declared.Kind.TheVariants.{Beat}
use Rattle.limits.specs.Numbers.{in_range, range_of, all_in}
use Rattle.limits.specs.Neighbours.{every_two, not_falling}
use Rattle.limits.proofs.Every.{every_rest}
use Rattle.order.specs.Order.{laid}
use Rattle.order.specs.Entries.{entries}
use Rattle.order.proofs.Compare.{below?}
use Rattle.columns.specs.declared.Outcome.{Outcome}
use Rattle.columns.specs.Each.{laid_each}
use Rattle.columns.proofs.EachOverFront.{each_over_front, copied_over_front}
use Rattle.tidy_by_rows.specs.ByMarks.{row_rises}
use Rattle.tidy_by_rows.proofs.ByMarks.{rising_never_falls}
use Rattle.tidy_speeds_entries.specs.Speed.{speed_entries, speed_on_row, near_speed}
use Rattle.chart.specs.ChartColumns.{SpeedColumns, speed_columns}
use Rattle.tidy_speeds_entries.specs.LaidSpeeds.{least_of}
use Rattle.tidy_speeds_entries.specs.inside.LaidRooms.{LaidRooms}
use Rattle.tidy_speeds_entries.proofs.SpeedColumns.{many-speeds}
use Rattle.tidy_speeds_ordered.specs.inside.Apart.{ColumnsApart}
use Rattle.tidy_speeds_ordered.proofs.ColumnsLaid.{apart-kept}
use Rattle.tidy_speeds.specs.SpeedTidying.{speed_list_number, speeds_number}
use Rattle.tidy_kept.specs.Keeping.{keep_number}
use Rattle.rows.specs.RowKey.{row_key_at}
use Rattle.limits.proofs.NoRefusal.{lower-none}
use Rattle.columns.proofs.Rooms.{number_of_tests}
use Rattle.tidy_speeds.proofs.ListTaken.{SpeedsTaken, speeds-taken}
use Rattle.tidy_speeds.proofs.Outcomes.{ordered-number, ordered-list}
use Rattle.assembly_rows.proofs.QuantizedTaken.{quantized_beats_taken}
use Rattle.assembly_rows.proofs.RisingRows.{quantized_on_row}
use Rattle.assembly_scrolls.specs.AssembledScrolls.{rise_apart}
use Rattle.assembly_scrolls.proofs.RisingKeys.{rising-keys}
use Rattle.assembly_scrolls.proofs.Untested.{both-apart}
use Rattle.rows.proofs.Allowed.{taken-allowed}
use Rattle.assembly_speeds.specs.AssembledSpeeds.{narrowed_speed, quantized_speeds, assembled_speeds, assembled_speeds_number, SpeedsOver, SpeedsAssembled, speeds_room_number, speeds_later, each_speed, same_lengths, speeds_by_themselves, SpeedsUntested}
use Rattle.assembly_speeds.specs.inside.NarrowedSpeeds.{EvenSpeeds}
use Rattle.assembly_speeds.proofs.NarrowedSpeeds.{least-within, beats_so_lem, ratios_so_lem, delays_so_lem, units_so_lem}
use Rattle.assembly_speeds.proofs.QuantizedTaken.{speeds-pass}
use Rattle.assembly_speeds.proofs.Outcomes.{taken_at_once}

-- ---- lengths
same : {list : SpeedColumns} → EvenSpeeds list → same_lengths (length list.beats) (length list.ratios) (length list.delays) (length list.units) ≡ true
unfolding same_lengths
same {list} even =
    rw (eq-eqb (length list.beats) (length list.ratios) even.ratios_even, eq-eqb (length list.beats) (length list.delays) even.delays_even, eq-eqb (length list.beats) (length list.units) even.units_even)

all_true : (s t u : Bool) → pick s (pick t u false) false ≡ true → (s ≡ true) × (t ≡ true) × (u ≡ true)
all_true true true u h = (refl, refl, h)
all_true true false u h = let z : ◌≡◌ {A = ℕ} 0 1 = cc in absurd (omega arith)
all_true false t u h = let z : ◌≡◌ {A = ℕ} 0 1 = cc in absurd (omega arith)

pub same_so : (list : SpeedColumns) → same_lengths (length list.beats) (length list.ratios) (length list.delays) (length list.units) ≡ true → EvenSpeeds list
unfolding same_lengths
same_so list h =
    let told = all_true (eqb (length list.beats) (length list.ratios)) (eqb (length list.beats) (length list.delays)) (eqb (length list.beats) (length list.units)) h in
    record { ratios_even = eqb-true _ _ told.0; delays_even = eqb-true _ _ told.1; units_even = eqb-true _ _ told.2 }

-- ---- each by itself over the fronts of the rooms
module _ (list : SpeedColumns) (even : EvenSpeeds list) where
  with_ratios : length list.beats ≡ length (map narrow list.ratios)
  with_ratios = even.ratios_even ∙ sym (length-map list.ratios narrow)

  with_delays : length list.beats ≡ length (map narrow list.delays)
  with_delays = even.delays_even ∙ sym (length-map list.delays narrow)

  pub each-length : length (each_speed list) ≡ length list.beats
  each-length = omega (arith, many-speeds (map narrow list.ratios) (map narrow list.delays) list.units list.beats, with_ratios, with_delays, even.units_even)

  pub each_laid : (old : SpeedColumns) → length list.beats ≤ least_of (length old.beats) (length old.ratios) (length old.delays) (length old.units)
      → LaidRooms (each_speed list) old.beats (laid_each (λ (x : Float). x) list.beats old.beats) old.ratios (laid_each narrow list.ratios old.ratios)
      old.delays (laid_each narrow list.delays old.delays) old.units (laid_each (λ (unit : ℕ). unit) list.units old.units)
  each_laid old room =
      let here = least-within (length old.beats) (length old.ratios) (length old.delays) (length old.units) (length list.beats) room in
      record {
        beats_are =
            copied_over_front list.beats old.beats here.0
            ∙ ap (λ (l : List Float). laid l old.beats) (sym (beats_so_lem list.beats (map narrow list.ratios) (map narrow list.delays) list.units with_ratios with_delays even.units_even));
        ratios_are =
            each_over_front narrow list.ratios old.ratios (omega (arith, here.1, even.ratios_even))
            ∙ ap (λ (l : List Float). laid l old.ratios) (sym (ratios_so_lem list.beats (map narrow list.ratios) (map narrow list.delays) list.units with_ratios with_delays even.units_even));
        delays_are =
            each_over_front narrow list.delays old.delays (omega (arith, here.2, even.delays_even))
            ∙ ap (λ (l : List Float). laid l old.delays) (sym (delays_so_lem list.beats (map narrow list.ratios) (map narrow list.delays) list.units with_ratios with_delays even.units_even));
        units_are =
            copied_over_front list.units old.units (omega (arith, here.3, even.units_even))
            ∙ ap (λ (l : List ℕ). laid l old.units) (sym (units_so_lem list.beats (map narrow list.ratios) (map narrow list.delays) list.units with_ratios with_delays even.units_even));
      }

-- ---- quantised beats on their rows, and all of it narrowed
each_on_its_row : (beats ratios delays : List Float) (units : List ℕ) → all_in (range_of Beat) beats ≡ true
    → map narrowed_speed (map speed_on_row (speed_entries (map quantized beats) ratios delays units)) ≡ each_speed (speed_columns (map quantized beats) ratios delays units)
unfolding entries
each_on_its_row [] ratios delays units h = refl
each_on_its_row (b ∷ beats) [] delays units h = refl
each_on_its_row (b ∷ beats) (r ∷ ratios) [] units h = refl
each_on_its_row (b ∷ beats) (r ∷ ratios) (d ∷ delays) [] h = refl
each_on_its_row (b ∷ beats) (r ∷ ratios) (d ∷ delays) (u ∷ units) h =
    let both = every_rest (in_range (range_of Beat)) b beats h in
    ap₂ ◌∷◌ (ap (λ (beat : Float). (beat, (narrow r, (narrow d, u)))) (quantized_on_row b (taken-allowed b both.0))) (each_on_its_row beats ratios delays units both.1)

module _ (raw : SpeedColumns) where
  by_themselves : EvenSpeeds raw → length raw.beats ≤ 1024 → speeds_by_themselves raw ≡ rise_apart (map quantized raw.beats) raw.ratios
  unfolding speeds_by_themselves
  by_themselves even few = rw (same even, le-leb (length raw.beats) 1024 few)

  tests-pass : assembled_speeds_number raw ≡ 0 → SpeedsTaken (map quantized raw.beats) raw.ratios raw.delays raw.units
  unfolding speeds_number
  tests-pass h =
      speeds-taken
      (lower-none (speed_list_number (map quantized raw.beats) raw.ratios raw.delays raw.units)
      (keep_number row_key_at near_speed (speed_entries (map quantized raw.beats) raw.ratios raw.delays raw.units)) h).0

  even_so : assembled_speeds_number raw ≡ 0 → EvenSpeeds raw
  even_so h =
      let taken = tests-pass h in
      let many = sym (length-map raw.beats quantized) in
      record { ratios_even = many ∙ taken.ratios_even; delays_even = many ∙ taken.delays_even; units_even = many ∙ taken.units_even }

  module _ {outcome : Outcome} {old new : SpeedColumns} where
    as_assembled : speeds_by_themselves raw ≡ false → SpeedsAssembled raw outcome old new → SpeedsUntested raw outcome old new
    as_assembled h p = rw h p

    pub not_even : same_lengths (length raw.beats) (length raw.ratios) (length raw.delays) (length raw.units) ≡ false → SpeedsAssembled raw outcome old new → SpeedsUntested raw outcome old new
    not_even h p = as_assembled (unfold speeds_by_themselves in rw h) p

    pub not_few : same_lengths (length raw.beats) (length raw.ratios) (length raw.delays) (length raw.units) ≡ true → 1024 < length raw.beats → SpeedsAssembled raw outcome old new → SpeedsUntested raw outcome old new
    not_few even h p = as_assembled (unfold speeds_by_themselves in rw (even, lt-leb (length raw.beats) 1024 h)) p

    -- what is refused by its lengths
    refused_so : (assembled_speeds_number raw ≡ 0 → ⊥) → SpeedsAssembled raw outcome old new → outcome.number ≡ 0 → ⊥
    refused_so h p none =
        let room = least_of (length old.beats) (length old.ratios) (length old.delays) (length old.units) in
        h (number_of_tests (assembled_speeds_number raw) (length (assembled_speeds raw)) room h ∙ sym p.number ∙ none)

    pub uneven-refused : same_lengths (length raw.beats) (length raw.ratios) (length raw.delays) (length raw.units) ≡ false → SpeedsAssembled raw outcome old new → outcome.number ≡ 0 → ⊥
    uneven-refused h = refused_so (λ e. let z : ◌≡◌ {A = ℕ} 0 1 = cc (h, same (even_so e)) in omega arith)

    pub long-refused : 1024 < length raw.beats → SpeedsAssembled raw outcome old new → outcome.number ≡ 0 → ⊥
    long-refused h = refused_so (λ e. omega (arith, (tests-pass e).few, length-map raw.beats quantized))

    pub not_apart_lem : {quantised : List Float} → EvenSpeeds raw → length raw.beats ≤ 1024 → quantised ≡ map quantized raw.beats → rise_apart quantised raw.ratios ≡ false
        → SpeedsAssembled raw outcome old new → SpeedsUntested raw outcome old new
    not_apart_lem even few e h p = as_assembled (by_themselves even few ∙ ap (λ (l : List Float). rise_apart l raw.ratios) (sym e) ∙ h) p

    pub apart : {quantised : List Float} → EvenSpeeds raw → length raw.beats ≤ 1024 → quantised ≡ map quantized raw.beats → rise_apart quantised raw.ratios ≡ true
        → SpeedsOver 0 (each_speed (speed_columns quantised raw.ratios raw.delays raw.units)) outcome old new → SpeedsUntested raw outcome old new
    apart even few e h p = rw (by_themselves even few ∙ ap (λ (l : List Float). rise_apart l raw.ratios) (sym e) ∙ h) (rw e at p)

  -- ---- of a taken list
  module _ (h : speed_list_number raw.beats raw.ratios raw.delays raw.units ≡ 0) where
    taken-even : EvenSpeeds raw
    taken-even = let taken = speeds-taken h in record { ratios_even = taken.ratios_even; delays_even = taken.delays_even; units_even = taken.units_even }

    module _ (each : rise_apart (map quantized raw.beats) raw.ratios ≡ true) where
      rows-rise : every_two row_rises (map quantized raw.beats) ≡ true
      rows-rise = rising-keys raw.beats (speeds-taken h).beats_in (both-apart (map quantized raw.beats) raw.ratios each).0

      all_apart : ColumnsApart (map quantized raw.beats) raw.ratios raw.delays raw.units
      all_apart =
          let taken = speeds-taken h in
          record {
            ratios_even = sym (length-map raw.beats quantized ∙ taken.ratios_even);
            delays_even = sym (length-map raw.beats quantized ∙ taken.delays_even);
            units_even = sym (length-map raw.beats quantized ∙ taken.units_even);
            allowed = quantized_beats_taken raw.beats (speeds-taken h).beats_in;
            rising = rows-rise;
            far = (both-apart (map quantized raw.beats) raw.ratios each).1;
          }

      abbrev passes : speed_list_number (map quantized raw.beats) raw.ratios raw.delays raw.units ≡ 0
      passes = speeds-pass raw.beats raw.ratios raw.delays raw.units h

      apart-number : assembled_speeds_number raw ≡ 0
      apart-number = ordered-number (map quantized raw.beats) raw.ratios raw.delays raw.units passes (rising_never_falls (map quantized raw.beats) rows-rise)

      apart-list : assembled_speeds raw ≡ each_speed (quantized_speeds raw)
      unfolding assembled_speeds
      apart-list =
          ap (map narrowed_speed) (ordered-list (map quantized raw.beats) raw.ratios raw.delays raw.units passes (rising_never_falls (map quantized raw.beats) rows-rise)
          ∙ ap (map speed_on_row) (apart-kept (map quantized raw.beats) raw.ratios raw.delays raw.units all_apart))
          ∙ each_on_its_row raw.beats raw.ratios raw.delays raw.units (speeds-taken h).beats_in

    module _ {outcome : Outcome} {old new : SpeedColumns} where
      choose : (each : Bool) → speeds_by_themselves raw ≡ each
          → SpeedsOver (pick each 0 (assembled_speeds_number raw)) (pick each (each_speed (quantized_speeds raw)) (assembled_speeds raw)) outcome old new
          → SpeedsAssembled raw outcome old new
      choose true e p = let each = sym (by_themselves taken-even (speeds-taken h).few) ∙ e in rw (apart-number each, apart-list each) p
      choose false e p = p

      pub untested_taken : SpeedsUntested raw outcome old new → SpeedsAssembled raw outcome old new
      untested_taken p = choose (speeds_by_themselves raw) refl p

    at_once : (room : ℕ) → length raw.beats ≤ room → (ordered : Bool) → every_two not_falling raw.beats ≡ ordered → pick ordered 0 (speeds_room_number raw room) ≡ speeds_room_number raw room
    at_once room l true e = taken_at_once raw room h e l
    at_once room l false e = refl

    pub later-taken : (room : ℕ) → speeds_later raw room ≡ speeds_room_number raw room
    unfolding speeds_later
    later-taken room = ⊎_elim (λ l. rw (lt-leb (length raw.beats) room l)) (λ l. rw (le-leb (length raw.beats) room l) (at_once room l (every_two not_falling raw.beats) refl)) (below? room (length raw.beats))

  -- ---- the number, as it is asked
  pub later-short : (room : ℕ) → room < length raw.beats → speeds_room_number raw room ≡ speeds_later raw room
  unfolding speeds_later
  later-short room l = rw (lt-leb (length raw.beats) room l)

  pub later-by : (room : ℕ) (ordered : Bool) → length raw.beats ≤ room → ordered ≡ every_two not_falling raw.beats → pick ordered 0 (speeds_room_number raw room) ≡ speeds_later raw room
  unfolding speeds_later
  later-by room ordered l e = rw (le-leb (length raw.beats) room l, ← e)
