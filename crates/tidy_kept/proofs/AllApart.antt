-- Where rows rise and no value is near the one before it, every entry is written. Assumes nothing.
use Prim.Native.Nat.{ℕ, ◌<◌}
use mathlib.Core.Path.{◌≡◌, refl, ap}
use mathlib.Core.Bool.{Bool, true, false, not}
use mathlib.Core.List.{List, [], ◌∷◌}
use native.Mathlib.Omega.{arith}
use lib.Dec.{ltb}
use lib.ListN.{length}
use borrow.Author.Tests.{lt-ltb, ltb-true, not-true}
use Rattle.limits.specs.Neighbours.{neighbours, every_two}
use Rattle.limits.proofs.Every.{every_rest}
use Rattle.limits.proofs.EachTwo.{passes}
use Rattle.order.specs.Entries.{entries}
use Rattle.tidy_kept.specs.Passing.{writes, entry_passed, still_written}
use Rattle.tidy_kept.proofs.InOnePass.{state}

module _ {B W : Type 0} (row : B → ℕ) (near : W → W → Bool) where
  -- each entry is on a later row than the one before it, and not near it
  abbrev pub Apart : B × W → List (B × W) → Type 0
  Apart x [] = Unit {0}
  Apart x (y ∷ list) = (row x.0 < row y.0) × (near y.1 x.1 ≡ false) × Apart y list

  pub all-written : (before : W) (x : B × W) (list : List (B × W)) → Apart x list → still_written row near (state true before (row x.0) x) list ≡ x ∷ list
  unfolding still_written writes entry_passed
  all-written before x [] a = refl
  all-written before x (y ∷ list) a = rw (lt-ltb (row x.0) (row y.0) a.0, a.1) (ap (◌∷◌ x) (all-written x.1 y list a.2))

  -- by each column
  abbrev pub rises_to : B → B → Bool
  rises_to beat next = ltb (row beat) (row next)

  abbrev pub is_far : W → W → Bool
  is_far value next = not (near next value)

  pub columns-apart : (b : B) (v : W) (beats : List B) (values : List W) → length beats ≡ length values → every_two rises_to (b ∷ beats) ≡ true → every_two is_far (v ∷ values) ≡ true → Apart (b, v) (entries beats values)
  unfolding neighbours entries
  columns-apart b v [] [] same r f = tt
  columns-apart b v [] (w ∷ values) same r f = absurd (omega arith)
  columns-apart b v (next ∷ beats) [] same r f = absurd (omega arith)
  columns-apart b v (next ∷ beats) (w ∷ values) same r f =
      let rise = every_rest (passes rises_to) (b, next) (neighbours (next ∷ beats)) r in
      let far = every_rest (passes is_far) (v, w) (neighbours (w ∷ values)) f in
      (ltb-true (row b) (row next) rise.0, not-true (near w v) far.0, columns-apart next w beats values (omega arith) rise.1 far.1)
