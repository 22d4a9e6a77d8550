-- Counts added up: over two lists, one behind the other, and by a loop. Assumes nothing.
use Prim.Native.Nat.{ℕ, ◌+◌, ◌≤◌, ◌<◌}
use mathlib.Core.List.{List, [], ◌∷◌, ◌++◌}
use mathlib.Core.Path.{◌≡◌}
use native.Mathlib.Numerals.{add-one}
use native.Mathlib.Omega.{arith}
use lib.ListN.{length, get_or, drop, drop_of_length-le}
use lib.Seq.{drop-cons}
use Rattle.order.specs.Entries.{total}

pub total-on : (first second : List ℕ) → total (first ++ second) ≡ total first + total second
unfolding total
total-on [] second = omega arith
total-on (n ∷ first) second = omega (arith, total-on first second)

-- i counts are added
pub record Adding (counts : List ℕ) (all i : ℕ) : Type 0 where
  pub same : all + total (drop i counts) ≡ total counts

pub begun : (counts : List ℕ) → Adding counts 0 0
begun counts = record { same = omega arith }

module _ {counts : List ℕ} {all i : ℕ} (a : Adding counts all i) where
  next : i < length counts → total (drop i counts) ≡ get_or counts i 0 + total (drop (i + 1) counts)
  unfolding total
  next h = rw (drop-cons counts i 0 h, add-one i)

  pub turned : i < length counts → Adding counts (all + get_or counts i 0) (i + 1)
  turned h = record { same = omega (arith, next h, a.same) }

  pub no_more : i < length counts → all + get_or counts i 0 ≤ total counts
  no_more h = omega (arith, next h, a.same)

  pub ended : length counts ≤ i → all ≡ total counts
  unfolding total
  ended h = omega (arith, rw (drop_of_length-le counts h) at a.same)
