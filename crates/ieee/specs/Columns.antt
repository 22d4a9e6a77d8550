-- A column whose numbers are its entries as they are.
use Rattle.std.specs.Prelude.{◌≡◌, refl, List, [], ◌∷◌, map, Float}
use mathlib.Core.Path.{ap}

-- Which number an f64 is, or an f32: itself, since both formats are numbers of one kind.
abbrev pub as_it_is : Float → Float
as_it_is x = x

-- Which numbers a column of either has.
abbrev pub column_as_it_is : List Float → List Float
column_as_it_is column = column

pub each_as_it_is : (column : List Float) → column_as_it_is column ≡ map as_it_is column
each_as_it_is [] = refl
each_as_it_is (x ∷ column) = ap (◌∷◌ x) (each_as_it_is column)
