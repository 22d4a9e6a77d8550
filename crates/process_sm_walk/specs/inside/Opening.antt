-- The first of a column's tempos. Definitions only.
use Rattle.std.specs.Prelude.{List, [], ◌∷◌, Float}
use Rattle.ieee.specs.Constants.{sixty32}

-- 60 where there is none
abbrev pub first_value : List Float → Float
first_value [] = sixty32
first_value (value ∷ values) = value
