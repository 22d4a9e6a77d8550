-- Of an input that is taken no list has more than 256 entries, so a front of 256 zeros is the marks of the warps that were read. Assumes nothing.
use Prim.Native.Nat.{ℕ, zero, suc, ◌≤◌}
use mathlib.Core.Path.{◌≡◌, refl, sym, ap, ◌∙◌}
use mathlib.Core.Bool.{Bool, true, false}
use mathlib.Core.List.{List, [], ◌∷◌}
use native.Mathlib.Omega.{arith}
use borrow.Author.Tests.{ltb-false}
use lib.Dec.{ltb}
use lib.ListN.{length, get_or, take, replicate, length-take}
use lib.Ieee.{Float}
use Rattle.picks.specs.Pick.{pick}
use Rattle.report_form.specs.declared.Reading.{Reading}
use Rattle.report_form.specs.Form.{whole, over, answer_of}
use Rattle.report_form.specs.ReadColumns.{entries_counted}

-- ---- a count
none_over : (counts : List ℕ) → over counts ≡ false → (list : ℕ) → get_or counts list 0 ≤ 256
unfolding over
none_over [] h list = omega arith
none_over (count ∷ counts) h list = go (ltb 256 count) refl h (λ (rest : over counts ≡ false) (i : ℕ). none_over counts rest i) list
  where
    go : (t : Bool) → ltb 256 count ≡ t → pick t true (over counts) ≡ false → (over counts ≡ false → (i : ℕ) → get_or counts i 0 ≤ 256) → (list : ℕ) → get_or (count ∷ counts) list 0 ≤ 256
    go true e h on list = let z : ◌≡◌ {A = ℕ} 0 1 = cc in absurd (omega arith)
    go false e h on zero = ltb-false 256 count e
    go false e h on (suc list) = on h list

not_over : (reading : Reading) (counts : List ℕ) → answer_of reading counts ≡ 0 → over counts ≡ false
unfolding answer_of
not_over reading counts h = go (whole reading) (over counts) h
  where
    go : (w o : Bool) → ◌≡◌ {A = ℕ} (pick w (pick o 1 0) 10) 0 → o ≡ false
    go true true h = absurd (omega arith)
    go true false h = refl
    go false o h = absurd (omega arith)

-- ---- zeros
front_same : {A : Type 0} (x : A) (n m : ℕ) → n ≤ m → take n (replicate m x) ≡ replicate n x
front_same x zero m h = refl
front_same x (suc n) zero h = absurd (omega arith)
front_same x (suc n) (suc m) h = ap (◌∷◌ x) (front_same x n m (omega arith))

-- as many as the beats that were read
pub written-front : (reading : Reading) (counts : List ℕ) (column : List Float) {number warps : ℕ} {beats : List Float} {marks : List ℕ} → number ≡ answer_of reading counts → number ≡ 0
    → warps ≡ entries_counted counts 5 → beats ≡ take warps column → marks ≡ take (length beats) (replicate 256 0) → marks ≡ replicate (length beats) 0
written-front reading counts column {warps = warps} {beats = beats} e z w b m =
    let few = none_over counts (not_over reading counts (sym e ∙ z)) 5 in
    m ∙ front_same 0 (length beats) 256 (omega (arith, ap length b, length-take warps column))
