-- A test of each two neighbours of a list. Definitions only.
use Rattle.std.specs.Prelude.{Bool, not, List, [], ◌∷◌, Float}
use Rattle.std.specs.Float.Ieee.{lt}
use Rattle.limits.specs.Numbers.{every}

-- each entry but the last beside the one after it
unfoldable pub neighbours : {A : Type 0} → List A → List (A × A)
neighbours [] = []
neighbours (x ∷ []) = []
neighbours (x ∷ y ∷ list) = (x, y) ∷ neighbours (y ∷ list)

abbrev pub every_two : {A : Type 0} → (A → A → Bool) → List A → Bool
every_two {A} test list = every (λ (e : A × A). test e.0 e.1) (neighbours list)

-- the next is not below
abbrev pub not_falling : Float → Float → Bool
not_falling x next = not (lt next x)
