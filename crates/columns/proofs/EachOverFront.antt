-- What is laid for each number of a column lies over the front of a room that is long enough. Assumes nothing.
use Prim.Native.Nat.{◌≤◌}
use mathlib.Core.Path.{◌≡◌, refl, ap, ◌∙◌}
use mathlib.Core.List.{List, [], ◌∷◌, map, map-id}
use native.Mathlib.Omega.{arith}
use lib.ListN.{length}
use Rattle.order.specs.Order.{laid}
use Rattle.columns.specs.Each.{laid_each}

pub each_over_front : {A B : Type 0} (f : A → B) (from : List A) (old : List B) → length from ≤ length old → laid_each f from old ≡ laid (map f from) old
unfolding laid_each laid
each_over_front f [] old h = refl
each_over_front f (x ∷ from) [] h = absurd (omega arith)
each_over_front f (x ∷ from) (y ∷ old) h = ap (◌∷◌ (f x)) (each_over_front f from old (omega arith))

pub copied_over_front : {A : Type 0} (from old : List A) → length from ≤ length old → laid_each (λ (x : A). x) from old ≡ laid from old
copied_over_front {A} from old h = each_over_front (λ (x : A). x) from old h ∙ rw (map-id from)
