-- Whether each two numbers pass a test, from one number on: by that of it and the next. What a loop knows that ends at what fails. Assumes nothing.
use Prim.Native.Nat.{ℕ, suc, ◌+◌, ◌≤◌, ◌<◌}
use mathlib.Core.Path.{◌≡◌, sym, ap, ◌∙◌}
use mathlib.Core.Bool.{Bool, true, false}
use mathlib.Core.List.{List, ◌∷◌}
use native.Mathlib.Numerals.{add-one}
use native.Mathlib.Omega.{arith}
use lib.ListN.{length, drop, get_or, drop_of_length-le}
use lib.Seq.{drop-cons}
use lib.Ieee.{Float, nan}
use mathlib.Core.Logic.{inl, inr}
use Rattle.std.proofs.lemmas.Bool.{cases_lt}
use Rattle.limits.specs.Numbers.{every}
use Rattle.limits.specs.Neighbours.{neighbours, every_two}

module _ (column : List Float) (i : ℕ) where
  one : i < length column → drop i column ≡ get_or column i nan ∷ drop (i + 1) column
  one h = rw (add-one i, drop-cons column i nan h)

  two : i + 1 < length column → drop i column ≡ get_or column i nan ∷ get_or column (i + 1) nan ∷ drop (suc (i + 1)) column
  two h = one (omega arith) ∙ ap (◌∷◌ (get_or column i nan)) (drop-cons column (i + 1) nan h)

  module _ (test : Float → Float → Bool) where
    pub two-pass : i + 1 < length column → test (get_or column i nan) (get_or column (i + 1) nan) ≡ true → every_two test (drop i column) ≡ every_two test (drop (i + 1) column)
    unfolding neighbours every
    two-pass h t = rw (two h, drop-cons column (i + 1) nan h, t)

    pub two_fail : i + 1 < length column → test (get_or column i nan) (get_or column (i + 1) nan) ≡ false → every_two test (drop i column) ≡ false
    unfolding neighbours every
    two_fail h t = rw (two h, t)

    pub two_end : length column ≤ i + 1 → every_two test (drop i column) ≡ true
    unfolding neighbours every
    two_end l = elim (cases_lt i (length column)) [ inl h ↦ last h l | inr past ↦ none past ]
      where
        last : i < length column → length column ≤ i + 1 → every_two test (drop i column) ≡ true
        last h l = rw (one h, drop_of_length-le column l)

        none : length column ≤ i → every_two test (drop i column) ≡ true
        none l = rw (drop_of_length-le column l)

-- ---- the same by what such a loop knows: that of the rest is that of the whole
module _ (test : Float → Float → Bool) (column : List Float) (i : ℕ) (known : every_two test (drop i column) ≡ every_two test column) where
  pub passes_on : i + 1 < length column → test (get_or column i nan) (get_or column (i + 1) nan) ≡ true → every_two test (drop (i + 1) column) ≡ every_two test column
  passes_on h t = sym (two-pass column i test h t) ∙ known

  pub fails-here : i + 1 < length column → test (get_or column i nan) (get_or column (i + 1) nan) ≡ false → false ≡ every_two test column
  fails-here h t = sym (two_fail column i test h t) ∙ known

  pub at_end : length column ≤ i + 1 → true ≡ every_two test column
  at_end l = sym (two_end column i test l) ∙ known
