-- Merged marks, read one by one: behind the given ones stands 1 at every place. Assumes nothing.
use Prim.Native.Nat.{ℕ, zero, suc, ◌+◌}
use mathlib.Core.Path.{◌≡◌, refl, ap, ◌∙◌}
use mathlib.Core.List.{List, [], ◌∷◌}
use lib.ListN.{length, get_or, replicate, length-replicate, length-append}
use Rattle.assembly_marks.specs.AssembledMarks.{merged_marks}

ones : (n i : ℕ) → ◌≡◌ {A = ℕ} (get_or (replicate n 1) i 1) 1
ones zero i = refl
ones (suc n) zero = refl
ones (suc n) (suc i) = ones n i

pub merged-at : (marks : List ℕ) (made i : ℕ) → get_or (merged_marks marks made) i 1 ≡ get_or marks i 1
merged-at [] made i = ones made i
merged-at (m ∷ marks) made zero = refl
merged-at (m ∷ marks) made (suc i) = merged-at marks made i

pub merged-length : (marks : List ℕ) (made : ℕ) → length (merged_marks marks made) ≡ length marks + made
merged-length marks made = length-append marks (replicate made 1) ∙ ap (λ (n : ℕ). length marks + n) (length-replicate made 1)
