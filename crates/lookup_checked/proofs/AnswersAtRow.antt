-- An answer by the beat of the asked row is the question's answer at that row. Assumes nothing.
use Prim.Native.Nat.{ℕ, ◌≤◌}
use mathlib.Core.Path.{◌≡◌, refl, sym}
use mathlib.Core.Bool.{Bool, true, false, not}
use mathlib.Core.List.{List}
use mathlib.Core.Logic.{◌⊎◌, inl, inr}
use native.Mathlib.Omega.{arith}
use borrow.Author.Tests.{le-leb}
use lib.IntN.{ℤ, nat_abs}
use lib.ListN.{length}
use lib.Ieee.{Float, binary32}
use Rattle.picks.specs.Pick.{pick}
use Rattle.ieee.specs.Narrowing.{narrow}
use Rattle.rows.specs.Rows.{beat_of}
use Rattle.rows.proofs.RowWithin.{row_within}
use Rattle.rows.proofs.Quantizing.{narrow-allowed}
use Rattle.limits.specs.declared.Kind.TheVariants.{Beat}
use Rattle.limits.specs.Numbers.{range_of, in_range, row_in, most_row}
use Rattle.rows.specs.RowKey.{row_key}
use Rattle.order_search.specs.Search.{place_of}
use Rattle.order_search.proofs.PlaceSplits.{place-within}
use Rattle.lookup_tests.proofs.RowsRise.{never}
use Rattle.lookup.specs.Lookups.{asked_number, asked_row, looked}
use Rattle.rows.proofs.Allowed.{taken-allowed}
use Rattle.lookup_checked.specs.Checked.{at_row}
use Rattle.lookup_checked.proofs.OffRow.{row-allowed}

-- ---- what is asked
pub asked-allowed : (beat : Float) → in_range (range_of Beat) beat ≡ true → nat_abs (asked_row beat) ≤ most_row
asked-allowed beat h = row_within binary32 (narrow beat) (narrow-allowed beat (taken-allowed beat h))

pub asked_in : (beat : Float) → in_range (range_of Beat) beat ≡ true → row_in (asked_row beat) ≡ true
unfolding row_in
asked_in beat h = le-leb (nat_abs (asked_row beat)) most_row (asked-allowed beat h)

-- of a row that is taken, as it goes through the machine: it is near enough for an f32, and places are within their columns
module _ (asked through : ℤ) (back : through ≡ asked) (taken : row_in asked ≡ true) where
  pub near : nat_abs through ≤ 3145729
  near = rw back (omega (arith, row-allowed asked taken))

  pub still-taken : row_in through ≡ true
  still-taken = rw back taken

  pub found_in : (at : Float) (beats : List Float) (place : ℕ) → place ≡ place_of at beats → (place ≤ length beats) × (row_in through ≡ true)
  found_in at beats place e = (omega (arith, place-within at beats), still-taken)

-- ---- the answer
module _ (question : Float → ℕ → Bool) (asked : ℤ) (allowed : Bool) where
  pub taken-row : (through : ℤ) → through ≡ asked → allowed ≡ true → (at : Float) → at ≡ beat_of binary32 through → (answer : Bool) → answer ≡ question at (row_key through)
      → looked 0 answer ≡ looked (asked_number allowed) (at_row question asked)
  taken-row through back t at a answer e = rw (t, e, a, back)

  pub refused-row : allowed ≡ false → record { number = 3; yes = false } ≡ looked (asked_number allowed) (at_row question asked)
  unfolding looked
  refused-row t = rw t

-- in a warp, and not fake: judged where not every pause is off the row
pub in_warp_only : (warp fake unpaused : Bool) → warp ≡ true → not fake ≡ true → not unpaused ≡ pick (pick warp unpaused false) false (not fake)
in_warp_only true fake true w f = refl
in_warp_only true fake false w f = sym f
in_warp_only false fake unpaused w f = never w

-- elsewhere: judged where not fake
pub elsewhere : (warp fake unpaused : Bool) → (not fake ≡ false) ⊎ (warp ≡ false) → not fake ≡ pick (pick warp unpaused false) false (not fake)
elsewhere warp fake unpaused (inl f) = rw f (sym (no (pick warp unpaused false)))
  where
    no : (t : Bool) → pick t false false ≡ false
    no true = refl
    no false = refl
elsewhere warp fake unpaused (inr w) = rw w
