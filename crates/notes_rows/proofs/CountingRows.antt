-- A loop that counts the rows of one measure: what holds where it begins, after each byte, at a comma and at the data's end. Assumes nothing.
use Prim.Native.Nat.{ℕ, ◌+◌, ◌≤◌, ◌<◌}
use mathlib.Core.Bool.{Bool, true, false}
use mathlib.Core.List.{List, [], ◌∷◌}
use mathlib.Core.Path.{◌≡◌, refl}
use native.Mathlib.Numerals.{add-one}
use native.Mathlib.Omega.{arith}
use lib.ListN.{length, drop, get_or, length-drop, drop_of_length-le}
use lib.Seq.{drop-cons}
use borrow.Author.Tests.{eq-eqb, ne_eqb}
use Rattle.notes_rows.specs.Measures.{line_feed, comma, is_blank, one_if, first_part, rows_of}
use Rattle.notes_rows.specs.inside.Counting.{MeasureCounted, rows_from_here, measure_at}
use Rattle.notes_rows.proofs.RowsByteByByte.{rows_byte_by_byte}
use Rattle.notes_rows.proofs.FewRows.{begun-counts, first_rows_few}

-- Of the measure at a place `rows` are counted, the row at i is begun or not, and the bytes from i to the measure's end are still to come.
pub record Counting (note_data : List ℕ) (place rows : ℕ) (begun : Bool) (i : ℕ) : Type 0 where
  pub within : i ≤ length note_data
  pub counted : rows + rows_from_here begun (measure_at i note_data) ≡ rows_of (measure_at place note_data)
  pub reach : i + length (measure_at i note_data) ≡ place + length (measure_at place note_data)

module _ {note_data : List ℕ} {place : ℕ} where
  pub at-start : place ≤ length note_data → Counting note_data place 0 false place
  at-start h = record { within = h; counted = omega (arith, rows_byte_by_byte (measure_at place note_data)); reach = refl }

  module _ {rows : ℕ} {begun : Bool} {i : ℕ} (so_far : Counting note_data place rows begun i) where
    -- ---- the row at i is counted where it is begun
    module _ {one : ℕ} (is : one ≡ one_if begun) where
      pub rows_fit : rows + one ≤ length note_data
      rows_fit =
          omega
          (arith, so_far.counted, begun-counts begun (measure_at i note_data), first_rows_few (drop place note_data), length-drop place note_data)

      ended : measure_at i note_data ≡ [] → MeasureCounted note_data place (record { rows = rows + one; end = i })
      unfolding rows_from_here
      ended none = record { rows = rw is (rw none at so_far.counted); end = omega (arith, rw none at so_far.reach) }

      pub at-end : length note_data ≤ i → MeasureCounted note_data place (record { rows = rows + one; end = length note_data })
      unfolding first_part
      at-end h =
          let here = ended (rw (drop_of_length-le note_data h)) in
          record { rows = here.rows; end = omega (arith, here.end, so_far.within) }

    module _ (more : i < length note_data) where
      next : drop i note_data ≡ get_or note_data i 0 ∷ drop (i + 1) note_data
      next = rw (add-one i) (drop-cons note_data i 0 more)

      pub at-comma : {one : ℕ} → one ≡ one_if begun → get_or note_data i 0 ≡ comma → MeasureCounted note_data place (record { rows = rows + one; end = i })
      unfolding first_part
      at-comma is h = ended is (rw (next, eq-eqb (get_or note_data i 0) comma h))

      module _ (inside : get_or note_data i 0 ≡ comma → ⊥) where
        longer : measure_at i note_data ≡ get_or note_data i 0 ∷ first_part comma (drop (i + 1) note_data)
        unfolding first_part
        longer = rw (next, ne_eqb (get_or note_data i 0) comma inside)

        onward : i + 1 + length (first_part comma (drop (i + 1) note_data)) ≡ place + length (measure_at place note_data)
        onward = omega (arith, rw longer at so_far.reach)

        pub at_line_feed : {one : ℕ} → one ≡ one_if begun → get_or note_data i 0 ≡ line_feed → Counting note_data place (rows + one) false (i + 1)
        unfolding rows_from_here
        at_line_feed is h =
            record { within = omega arith; counted = omega (arith, rw (longer, eq-eqb (get_or note_data i 0) line_feed h) at so_far.counted); reach = onward }

        module _ (no-feed : get_or note_data i 0 ≡ line_feed → ⊥) where
          pub at_blank : is_blank (get_or note_data i 0) ≡ true → Counting note_data place rows begun (i + 1)
          unfolding rows_from_here
          at_blank h = record { within = omega arith; counted = rw (longer, ne_eqb (get_or note_data i 0) line_feed no-feed, h) at so_far.counted; reach = onward }

          pub at_other : is_blank (get_or note_data i 0) ≡ false → Counting note_data place rows true (i + 1)
          unfolding rows_from_here
          at_other h = record { within = omega arith; counted = rw (longer, ne_eqb (get_or note_data i 0) line_feed no-feed, h) at so_far.counted; reach = onward }
