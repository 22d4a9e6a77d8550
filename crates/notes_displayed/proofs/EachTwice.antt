-- What is laid for each number of a column: how long it is, what stands at a place, and what is laid over it for the same numbers. Assumes nothing.
use Rattle.std.proofs.Common.{◌≡◌, ℕ, zero, suc, ◌<◌, ◌≤◌, List, [], ◌∷◌, length, get_or, refl, ap, arith}
use Rattle.columns.specs.Each.{laid_each}

module _ {A B : Type 0} (f : A → B) where
  pub each-length : (from : List A) (old : List B) → length (laid_each f from old) ≡ length old
  unfolding laid_each
  each-length [] old = refl
  each-length (x ∷ from) [] = refl
  each-length (x ∷ from) (y ∷ old) = ap suc (each-length from old)

  pub each_at : (from : List A) (old : List B) (none : A) (other : B) (i : ℕ) → i < length from → length from ≤ length old → get_or (laid_each f from old) i other ≡ f (get_or from i none)
  unfolding laid_each
  each_at [] old none other i h room = absurd (omega arith)
  each_at (x ∷ from) [] none other i h room = absurd (omega arith)
  each_at (x ∷ from) (y ∷ old) none other zero h room = refl
  each_at (x ∷ from) (y ∷ old) none other (suc i) h room = each_at from old none other i (omega arith) (omega arith)

  pub each_again : (g : A → B) (from : List A) (old : List B) → laid_each g from (laid_each f from old) ≡ laid_each g from old
  unfolding laid_each
  each_again g [] old = refl
  each_again g (x ∷ from) [] = refl
  each_again g (x ∷ from) (y ∷ old) = ap (◌∷◌ (g x)) (each_again g from old)
