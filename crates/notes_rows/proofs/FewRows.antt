-- Note data has no more rows than bytes. Assumes nothing.
use Prim.Native.Nat.{ℕ, suc, ◌+◌, ◌≤◌}
use mathlib.Core.Bool.{Bool, true, false}
use mathlib.Core.List.{List, [], ◌∷◌}
use native.Mathlib.Omega.{arith}
use lib.Dec.{eqb}
use lib.ListN.{length}
use Rattle.picks.specs.Pick.{pick}
use Rattle.notes_rows.specs.Measures.{line_feed, comma, is_blank, one_if, first_part, later_parts, measures, rows_of, all_rows, parts}
use Rattle.notes_rows.specs.inside.Counting.{rows_from_here}
use Rattle.notes_rows.proofs.RowsByteByByte.{rows_byte_by_byte}

-- ---- a measure

-- a row that is begun is counted
pub begun-counts : (begun : Bool) (bytes : List ℕ) → one_if begun ≤ rows_from_here begun bytes
unfolding rows_from_here
begun-counts begun [] = omega arith
begun-counts false (byte ∷ bytes) = omega arith
begun-counts true (byte ∷ bytes) = go (eqb byte line_feed) (is_blank byte) (begun-counts true bytes)
  where
    go : (feed blank : Bool) → 1 ≤ rows_from_here true bytes → 1 ≤ pick feed (1 + rows_from_here false bytes) (rows_from_here (pick blank true true) bytes)
    go true blank h = omega arith
    go false true h = h
    go false false h = h

few-rows : (begun : Bool) (bytes : List ℕ) → rows_from_here begun bytes ≤ one_if begun + length bytes
unfolding rows_from_here
few-rows begun [] = omega arith
few-rows begun (byte ∷ bytes) = go (eqb byte line_feed) (is_blank byte) (λ t. few-rows t bytes)
  where
    go : (feed blank : Bool) → ((t : Bool) → rows_from_here t bytes ≤ one_if t + length bytes)
        → pick feed (one_if begun + rows_from_here false bytes) (rows_from_here (pick blank begun true) bytes) ≤ one_if begun + suc (length bytes)
    go true blank fewer = omega (arith, fewer false)
    go false true fewer = omega (arith, fewer begun)
    go false false fewer = omega (arith, fewer true)

pub measure_rows_few : (bytes : List ℕ) → rows_of bytes ≤ length bytes
measure_rows_few bytes = omega (arith, few-rows false bytes, rows_byte_by_byte bytes)

-- ---- all measures

pub first_short : (bytes : List ℕ) → length (first_part comma bytes) ≤ length bytes
unfolding first_part
first_short [] = omega arith
first_short (byte ∷ bytes) = go (eqb byte comma) (first_short bytes)
  where
    go : (ends : Bool) → length (first_part comma bytes) ≤ length bytes → length (pick ends [] (byte ∷ first_part comma bytes)) ≤ suc (length bytes)
    go true h = omega arith
    go false h = omega arith

pub first_rows_few : (bytes : List ℕ) → rows_of (first_part comma bytes) ≤ length bytes
first_rows_few bytes = omega (arith, measure_rows_few (first_part comma bytes), first_short bytes)

together-few : (bytes : List ℕ) → length (first_part comma bytes) + all_rows (later_parts comma bytes) ≤ length bytes
unfolding first_part later_parts all_rows
together-few [] = omega arith
together-few (byte ∷ bytes) = go (eqb byte comma) (together-few bytes)
  where
    go : (ends : Bool) → length (first_part comma bytes) + all_rows (later_parts comma bytes) ≤ length bytes
        → length (pick ends [] (byte ∷ first_part comma bytes)) + all_rows (pick ends (first_part comma bytes ∷ later_parts comma bytes) (later_parts comma bytes)) ≤ suc (length bytes)
    go true h = omega (arith, measure_rows_few (first_part comma bytes))
    go false h = omega arith

pub all_rows_few : (bytes : List ℕ) → all_rows (measures bytes) ≤ length bytes
unfolding parts all_rows
all_rows_few bytes = omega (arith, together-few bytes, measure_rows_few (first_part comma bytes))

-- ---- and no more measures than bytes and one
later-few : (bytes : List ℕ) → length (later_parts comma bytes) ≤ length bytes
unfolding later_parts
later-few [] = omega arith
later-few (byte ∷ bytes) = go (eqb byte comma) (later-few bytes)
  where
    go : (ends : Bool) → length (later_parts comma bytes) ≤ length bytes → length (pick ends (first_part comma bytes ∷ later_parts comma bytes) (later_parts comma bytes)) ≤ suc (length bytes)
    go true h = omega arith
    go false h = omega arith

pub measures-few : (bytes : List ℕ) → length (measures bytes) ≤ length bytes + 1
unfolding parts
measures-few bytes = omega (arith, later-few bytes)
