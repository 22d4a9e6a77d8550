-- Marks that are all the same stay the same for every tidied row, so any front of them that is long enough is what tidying leaves. Assumes nothing.
use Prim.Native.Nat.{ℕ, zero, suc, ◌≤◌}
use mathlib.Core.Path.{◌≡◌, refl, sym, ap, ◌∙◌}
use mathlib.Core.Bool.{true}
use mathlib.Core.List.{List, [], ◌∷◌, map}
use native.Mathlib.Omega.{arith}
use borrow.Author.Tests.{eqb-true}
use lib.Dec.{eqb}
use lib.ListN.{length, take, get_or}
use lib.Seq.{length-take-le}
use lib.Ieee.{Float}
use Rattle.limits.specs.Numbers.{every}
use Rattle.limits.proofs.Every.{every_rest}
use Rattle.tidy_rows.proofs.AnyValues.{tidy-seconds}
use Rattle.tidy_warps.specs.WarpTidying.{tidy_marks}
use Rattle.assembly_marks.specs.AssembledMarks.{all_the_same}

-- of no marks none differs
pub none_differ : (marks : List ℕ) → length marks ≡ 0 → true ≡ all_the_same marks
unfolding all_the_same every
none_differ [] h = refl
none_differ (m ∷ marks) h = absurd (omega arith)

module _ (mark : ℕ) where
  abbrev alike : ℕ → ℕ
  alike other = mark

  all_as : (marks : List ℕ) → every (λ (other : ℕ). eqb other mark) marks ≡ true → map alike marks ≡ marks
  all_as [] h = refl
  all_as (m ∷ marks) h = let p = every_rest (λ (other : ℕ). eqb other mark) m marks h in rw (all_as marks p.1, eqb-true m mark p.0)

  front_as : (n : ℕ) (marks : List ℕ) → map alike (take n marks) ≡ take n (map alike marks)
  front_as zero marks = refl
  front_as (suc n) [] = refl
  front_as (suc n) (m ∷ marks) = ap (◌∷◌ mark) (front_as n marks)

  as_many : (a b : List ℕ) → length a ≡ length b → map alike a ≡ map alike b
  as_many [] [] h = refl
  as_many [] (y ∷ b) h = absurd (omega arith)
  as_many (x ∷ a) [] h = absurd (omega arith)
  as_many (x ∷ a) (y ∷ b) h = ap (◌∷◌ mark) (as_many a b (omega arith))

pub same-front : (beats : List Float) (marks : List ℕ) (count : ℕ) → all_the_same marks ≡ true → count ≡ length (tidy_marks beats marks) → count ≤ length marks → take count marks ≡ tidy_marks beats marks
unfolding all_the_same tidy_marks
same-front beats marks count same counted short =
    let mark = get_or marks 0 0 in
    let all = all_as mark marks same in
    let tidied = sym (ap (λ (l : List ℕ). tidy_marks beats l) all) ∙ tidy-seconds (alike mark) beats marks in
    ap (take count) (sym all) ∙ sym (front_as mark count marks) ∙ as_many mark (take count marks) (tidy_marks beats marks) (length-take-le count marks short ∙ counted) ∙ sym tidied
