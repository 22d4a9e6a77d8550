-- A call made for each number of a lent column. Definitions only.
use Rattle.std.specs.Prelude.{◌≡◌, List, [], ◌∷◌}

-- What `f` gives for each of the numbers, laid over the numbers that stood there, as far as both go.
unfoldable pub laid_each : {A B : Type 0} → (A → B) → List A → List B → List B
laid_each f [] old = old
laid_each f (x ∷ from) [] = []
laid_each f (x ∷ from) (y ∷ old) = f x ∷ laid_each f from old
