-- Measure by measure: behind the measure at a place stand those from the place after its comma on, and behind the last none. Assumes nothing.
use Prim.Native.Nat.{ℕ, suc, ◌+◌, ◌-◌, ◌≤◌}
use mathlib.Core.Bool.{Bool, true, false}
use mathlib.Core.List.{List, [], ◌∷◌}
use mathlib.Core.Path.{◌≡◌, refl, sym, ap, ◌∙◌}
use native.Mathlib.Omega.{arith}
use lib.Dec.{eqb, leb, leb-suc-suc}
use lib.ListN.{length, drop, length-drop}
use lib.Seq.{drop-drop}
use borrow.Author.Tests.{leb-true, leb-false, le-leb, lt-leb}
use Rattle.picks.specs.Pick.{pick}
use Rattle.notes_rows.specs.Measures.{comma, first_part, later_parts, measures, all_rows, parts}
use Rattle.notes_rows.specs.declared.Measure.{Measure}
use Rattle.notes_rows.specs.inside.Counting.{measures_from, MeasureCounted, measure_at}
use Rattle.notes_rows.proofs.FewRows.{first_short}

later-measures : (bytes : List ℕ) → later_parts comma bytes ≡ measures_from (suc (length (first_part comma bytes))) bytes
unfolding first_part later_parts parts measures_from
later-measures [] = refl
later-measures (byte ∷ bytes) = go (eqb byte comma) (later-measures bytes)
  where
    go : (ends : Bool) → later_parts comma bytes ≡ measures_from (suc (length (first_part comma bytes))) bytes
        → pick ends (first_part comma bytes ∷ later_parts comma bytes) (later_parts comma bytes) ≡ measures_from (suc (length (pick ends [] (byte ∷ first_part comma bytes)))) (byte ∷ bytes)
    go true h = rw (le-leb 1 (suc (length bytes)) (omega arith))
    go false h = rw (leb-suc-suc (suc (length (first_part comma bytes))) (length bytes)) h

shifted : (place q n : ℕ) → place ≤ n → leb (place + q) n ≡ leb q (n - place)
shifted place q n h = go (leb q (n - place)) refl
  where
    go : (t : Bool) → leb q (n - place) ≡ t → leb (place + q) n ≡ t
    go true e = le-leb (place + q) n (omega (arith, leb-true q (n - place) e))
    go false e = lt-leb (place + q) n (omega (arith, leb-false q (n - place) e))

module _ (note_data : List ℕ) (place : ℕ) (within : place ≤ length note_data) where
  from-part : (q : ℕ) → measures_from (place + q) note_data ≡ measures_from q (drop place note_data)
  unfolding measures_from
  from-part q = rw (drop-drop q place note_data, length-drop place note_data, shifted place q (length note_data) within)

  module _ {measure : Measure} (counted : MeasureCounted note_data place measure) where
    pub ends-within : measure.end ≤ length note_data
    ends-within = omega (arith, counted.end, first_short (drop place note_data), length-drop place note_data)

    pub measure_after_measure : measures_from place note_data ≡ measure_at place note_data ∷ measures_from (measure.end + 1) note_data
    unfolding measures_from parts
    measure_after_measure =
        let part = drop place note_data in
        let behind : measures_from (measure.end + 1) note_data ≡ later_parts comma part =
        ap (λ (n : ℕ). measures_from n note_data) (omega (arith, counted.end)) ∙ from-part (suc (length (first_part comma part))) ∙ sym (later-measures part) in
        rw (le-leb place (length note_data) within) (ap (◌∷◌ (first_part comma part)) (sym behind))

    pub rows_after_rows : all_rows (measures_from place note_data) ≡ measure.rows + all_rows (measures_from (measure.end + 1) note_data)
    unfolding all_rows
    rows_after_rows = ap all_rows measure_after_measure ∙ rw counted.rows

pub none-behind : (note_data : List ℕ) (place : ℕ) → suc (length note_data) ≤ place → measures_from place note_data ≡ []
unfolding measures_from
none-behind note_data place h = rw (lt-leb place (length note_data) (omega arith))

pub all_at_first : (note_data : List ℕ) → measures_from 0 note_data ≡ measures note_data
unfolding measures_from
all_at_first note_data = rw (le-leb 0 (length note_data) (omega arith))
