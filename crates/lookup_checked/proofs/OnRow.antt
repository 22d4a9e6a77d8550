-- Whether there is an entry at a place and it is on a row, by what is known of it. Assumes nothing.
use Prim.Native.Nat.{ℕ, ◌≤◌, ◌<◌}
use mathlib.Core.Path.{◌≡◌, sym}
use mathlib.Core.Bool.{true, false}
use mathlib.Core.List.{List}
use mathlib.Core.Logic.{inl, inr}
use borrow.Author.Tests.{lt-ltb, le-ltb, ne_eqb, eqb-true, eqb-false}
use lib.Dec.{eqb}
use lib.ListN.{length}
use lib.Ieee.{Float}
use Rattle.order.proofs.Compare.{below?}
use Rattle.lookup.specs.inside.Finding.{key_at}
use Rattle.lookup_tests.proofs.RowsRise.{never}
use Rattle.lookup_checked.specs.Checked.{is_on_row}

module _ (beats : List Float) (place key : ℕ) where
  -- from the code's tests
  pub by_key : place < length beats → eqb (key_at beats place) key ≡ is_on_row beats place key
  unfolding is_on_row
  by_key h = sym (rw (lt-ltb place (length beats) h))

  pub another_row : place < length beats → (key_at beats place ≡ key → ⊥) → false ≡ is_on_row beats place key
  unfolding is_on_row
  another_row h d = sym (rw (lt-ltb place (length beats) h, ne_eqb (key_at beats place) key d))

  pub no-entry : length beats ≤ place → false ≡ is_on_row beats place key
  unfolding is_on_row
  no-entry h = sym (rw (le-ltb place (length beats) h))

  -- an entry that is on a row is there, and has its key
  pub on_row : is_on_row beats place key ≡ true → (place < length beats) × (key_at beats place ≡ key)
  unfolding is_on_row
  on_row h = elim (below? place (length beats)) [
    | inl l ↦ (l, eqb-true (key_at beats place) key (rw (lt-ltb place (length beats) l) at h))
    | inr l ↦ never (rw (le-ltb place (length beats) l) at h)
  ]

  pub off-row : place < length beats → is_on_row beats place key ≡ false → key_at beats place ≡ key → ⊥
  unfolding is_on_row
  off-row h e = eqb-false (key_at beats place) key (rw (lt-ltb place (length beats) h) at e)
