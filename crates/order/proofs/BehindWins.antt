-- Where entries stand behind others, the last of a key is one of theirs, so it is the one that is kept. Assumes nothing.
use Prim.Native.Nat.{ℕ, ◌<◌}
use mathlib.Core.Path.{◌≡◌, refl, ap, ◌∙◌}
use mathlib.Core.List.{List, [], ◌∷◌, ◌++◌}
use native.Mathlib.Omega.{arith}
use lib.ListN.{length}
use Rattle.order.specs.Order.{tidied, only, the_last}
use Rattle.order.proofs.OrderedList.{only-append}
use Rattle.order.proofs.TidiedList.{only-tidied}

module _ {A : Type 0} where
  last-behind : (other a b : List A) → 0 < length b → the_last other (a ++ b) ≡ the_last [] b
  unfolding the_last
  last-behind other [] [] h = absurd (omega arith)
  last-behind other [] (x ∷ b) h = refl
  last-behind other (y ∷ a) b h = last-behind (y ∷ []) a b h

  pub behind_wins : (key : A → ℕ) (k : ℕ) (given behind : List A) → 0 < length (only key k behind) → only key k (tidied key (given ++ behind)) ≡ the_last [] (only key k behind)
  behind_wins key k given behind h =
      only-tidied key k (given ++ behind) ∙ ap (the_last []) (only-append key k given behind) ∙ last-behind [] (only key k given) (only key k behind) h
