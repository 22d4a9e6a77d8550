-- The entries of a list that a test keeps, each changed. Definitions only.
use Rattle.std.specs.Prelude.{Bool, List, [], ◌∷◌}
use Rattle.picks.specs.Pick.{pick}

unfoldable pub kept : {X Y : Type 0} → (X → Bool) → (X → Y) → List X → List Y
kept test change [] = []
kept test change (x ∷ list) = pick (test x) (change x ∷ kept test change list) (kept test change list)
