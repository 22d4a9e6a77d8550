-- Scrolls that are not tested first are laid each by itself or assembled, and where the list is taken both are the same, and so are both numbers. Assumes nothing.
use Prim.Native.Nat.{ℕ, ◌≤◌, ◌<◌, min}
use mathlib.Core.Path.{◌≡◌, refl, sym, ap, ◌∙◌}
use mathlib.Core.Bool.{Bool, true, false}
use mathlib.Core.List.{List, map}
use mathlib.Core.Logic.{⊎_elim}
use native.Mathlib.Omega.{arith}
use borrow.Author.Tests.{eq-eqb, ne_eqb, le-leb, lt-leb}
use lib.ListN.{length, length-map}
use lib.Ieee.{Float, lt}
use Rattle.picks.specs.Pick.{pick}
use Rattle.rows.specs.Rows.{quantized}
use Rattle.limits.specs.Neighbours.{every_two, not_falling}
use Rattle.limits.specs.declared.Kind.TheVariants.{Beat, Value}
use Rattle.limits.specs.Numbers.{range_of}
use Rattle.limits.specs.Refusals.{list_number}
use Rattle.limits.proofs.ListTaken.{Taken, list-taken}
use Rattle.limits.proofs.NoRefusal.{lower-none}
use Rattle.order.specs.Entries.{entries}
use Rattle.columns.proofs.Rooms.{number_of_tests}
use Rattle.tidy_scrolls.specs.ScrollTidying.{scrolls_number}
use Rattle.order.proofs.Compare.{below?}
use Rattle.columns.specs.declared.Outcome.{Outcome}
use Rattle.columns.specs.Laying.{LaidPair}
use Rattle.tidy_rows.specs.RowTidying.{rows_number}
use Rattle.rows.specs.RowKey.{row_key_at, on_its_row}
use Rattle.tidy_kept.specs.Near.{near_to, far_from}
use Rattle.tidy_kept.specs.Keeping.{keep_number}
use Rattle.tidy_by_rows.specs.ByMarks.{row_rises}
use Rattle.tidy_by_rows.proofs.ByMarks.{rising_never_falls}
use Rattle.tidy_scrolls.proofs.AllKept.{every-kept}
use Rattle.tidy_scrolls.proofs.Outcomes.{ordered-number, ordered-list}
use Rattle.assembly_rows.specs.AssembledRows.{narrowed_entry, each_by_itself, EachLaid}
use Rattle.assembly_rows.proofs.RisingRows.{each_on_its_row}
use Rattle.assembly_scrolls.specs.AssembledScrolls.{rise_apart, assembled_scrolls, assembled_scrolls_number, scrolls_by_themselves, scrolls_room_number, scrolls_later, ScrollsAssembled, ScrollsUntested}
use Rattle.assembly_scrolls.proofs.QuantizedTaken.{scrolls-pass}
use Rattle.assembly_scrolls.proofs.RisingKeys.{rising-keys}
use Rattle.assembly_scrolls.proofs.Outcomes.{taken_at_once}
use Rattle.assembly_rows.specs.declared.Meaning.TheVariants.{Values}

split : (rising far : Bool) → pick rising far false ≡ true → (rising ≡ true) × (far ≡ true)
split true far h = (refl, h)
split false far h = let z : ◌≡◌ {A = ℕ} 0 1 = cc in absurd (omega arith)

pub both-apart : (beats values : List Float) → rise_apart beats values ≡ true → (every_two lt beats ≡ true) × (every_two far_from values ≡ true)
unfolding rise_apart
both-apart beats values h = split (every_two lt beats) (every_two far_from values) h

module _ (beats values : List Float) where
  by_themselves : length values ≡ length beats → length beats ≤ 1024 → scrolls_by_themselves beats values ≡ rise_apart (map quantized beats) values
  unfolding scrolls_by_themselves
  by_themselves even few = rw (eq-eqb (length beats) (length values) (sym even), le-leb (length beats) 1024 few)

  tests-pass : assembled_scrolls_number beats values ≡ 0 → Taken (range_of Beat) (range_of Value) (map quantized beats) values
  unfolding scrolls_number
  tests-pass h = list-taken (lower-none (list_number (range_of Beat) (range_of Value) (map quantized beats) values) (keep_number row_key_at near_to (entries (map quantized beats) values)) h).0

  module _ {outcome : Outcome} {beats_old beats_new values_old values_new : List Float} where
    as_assembled : scrolls_by_themselves beats values ≡ false → ScrollsAssembled beats values outcome beats_old beats_new values_old values_new → ScrollsUntested beats values outcome beats_old beats_new values_old values_new
    as_assembled h p = rw h p

    pub not_even : (length beats ≡ length values → ⊥) → ScrollsAssembled beats values outcome beats_old beats_new values_old values_new → ScrollsUntested beats values outcome beats_old beats_new values_old values_new
    not_even h p = as_assembled (unfold scrolls_by_themselves in rw (ne_eqb (length beats) (length values) h)) p

    pub not_few : length beats ≡ length values → 1024 < length beats → ScrollsAssembled beats values outcome beats_old beats_new values_old values_new → ScrollsUntested beats values outcome beats_old beats_new values_old values_new
    not_few even h p = as_assembled (unfold scrolls_by_themselves in rw (eq-eqb (length beats) (length values) even, lt-leb (length beats) 1024 h)) p

    -- what is refused by its lengths
    refused_so : (assembled_scrolls_number beats values ≡ 0 → ⊥) → ScrollsAssembled beats values outcome beats_old beats_new values_old values_new → outcome.number ≡ 0 → ⊥
    refused_so h p none =
        h (number_of_tests (assembled_scrolls_number beats values) (length (assembled_scrolls beats values)) (min (length beats_old) (length values_old)) h ∙ sym p.number ∙ none)

    pub uneven-refused : (length beats ≡ length values → ⊥) → ScrollsAssembled beats values outcome beats_old beats_new values_old values_new → outcome.number ≡ 0 → ⊥
    uneven-refused h = refused_so (λ e. h (sym (length-map beats quantized) ∙ (tests-pass e).even))

    pub long-refused : 1024 < length beats → ScrollsAssembled beats values outcome beats_old beats_new values_old values_new → outcome.number ≡ 0 → ⊥
    long-refused h = refused_so (λ e. omega (arith, (tests-pass e).few, length-map beats quantized))

    pub not_apart_lem : {quantised : List Float} → length values ≡ length beats → length beats ≤ 1024 → quantised ≡ map quantized beats → rise_apart quantised values ≡ false
        → ScrollsAssembled beats values outcome beats_old beats_new values_old values_new → ScrollsUntested beats values outcome beats_old beats_new values_old values_new
    not_apart_lem even few e h p = as_assembled (by_themselves even few ∙ ap (λ (l : List Float). rise_apart l values) (sym e) ∙ h) p

    pub apart : {quantised : List Float} → length values ≡ length beats → length beats ≤ 1024 → quantised ≡ map quantized beats → rise_apart quantised values ≡ true
        → EachLaid Values quantised values outcome beats_old beats_new values_old values_new → ScrollsUntested beats values outcome beats_old beats_new values_old values_new
    apart even few e h p =
        rw (by_themselves even few ∙ ap (λ (l : List Float). rise_apart l values) (sym e) ∙ h)
        (rw (eq-eqb (length (map quantized beats)) (length values) (length-map beats quantized ∙ sym even)) at (rw e at p))

  -- ---- of a taken list
  module _ (h : rows_number beats values ≡ 0) where
    module _ (each : rise_apart (map quantized beats) values ≡ true) where
      rows-rise : every_two row_rises (map quantized beats) ≡ true
      rows-rise = rising-keys beats (list-taken h).beats_in (both-apart (map quantized beats) values each).0

      apart-number : assembled_scrolls_number beats values ≡ 0
      apart-number = ordered-number (map quantized beats) values (scrolls-pass beats values h) (rising_never_falls (map quantized beats) rows-rise)

      apart-list : assembled_scrolls beats values ≡ each_by_itself Values (map quantized beats) values
      unfolding assembled_scrolls
      apart-list =
          ap (map narrowed_entry) (ordered-list (map quantized beats) values (scrolls-pass beats values h) (rising_never_falls (map quantized beats) rows-rise)
          ∙ ap (map on_its_row) (every-kept (map quantized beats) values (length-map beats quantized ∙ (list-taken h).even) rows-rise (both-apart (map quantized beats) values each).1))
          ∙ each_on_its_row beats values (list-taken h).beats_in

    module _ {outcome : Outcome} {beats_old beats_new values_old values_new : List Float} where
      choose : (each : Bool) → scrolls_by_themselves beats values ≡ each
          → LaidPair (pick each 0 (assembled_scrolls_number beats values)) (pick each (each_by_itself Values (map quantized beats) values) (assembled_scrolls beats values)) outcome beats_old beats_new values_old values_new
          → ScrollsAssembled beats values outcome beats_old beats_new values_old values_new
      choose true e p =
          let each = sym (by_themselves (sym (list-taken h).even) (list-taken h).few) ∙ e in
          rw (apart-number each, apart-list each) p
      choose false e p = p

      pub untested_taken : ScrollsUntested beats values outcome beats_old beats_new values_old values_new → ScrollsAssembled beats values outcome beats_old beats_new values_old values_new
      untested_taken p = choose (scrolls_by_themselves beats values) refl p

    at_once : (room : ℕ) → length beats ≤ room → (ordered : Bool) → every_two not_falling beats ≡ ordered → pick ordered 0 (scrolls_room_number beats values room) ≡ scrolls_room_number beats values room
    at_once room l true e = taken_at_once beats values room h e l
    at_once room l false e = refl

    pub later-taken : (room : ℕ) → scrolls_later beats values room ≡ scrolls_room_number beats values room
    unfolding scrolls_later
    later-taken room = ⊎_elim (λ l. rw (lt-leb (length beats) room l)) (λ l. rw (le-leb (length beats) room l) (at_once room l (every_two not_falling beats) refl)) (below? room (length beats))

-- ---- the number, as it is asked
pub later-short : (beats values : List Float) (room : ℕ) → room < length beats → scrolls_room_number beats values room ≡ scrolls_later beats values room
unfolding scrolls_later
later-short beats values room l = rw (lt-leb (length beats) room l)

pub later-by : (beats values : List Float) (room : ℕ) (ordered : Bool) → length beats ≤ room → ordered ≡ every_two not_falling beats → pick ordered 0 (scrolls_room_number beats values room) ≡ scrolls_later beats values room
unfolding scrolls_later
later-by beats values room ordered l e = rw (le-leb (length beats) room l, ← e)
