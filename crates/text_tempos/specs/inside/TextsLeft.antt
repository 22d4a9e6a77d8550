-- The texts from one on, as a loop writes them. Definitions only.
use Rattle.std.specs.Prelude.{ℕ, zero, suc, List, [], ◌∷◌, ◌++◌}

-- a comma stands before each text but the first
abbrev pub comma_before : ℕ → List ℕ
comma_before zero = []
comma_before (suc i) = 44 ∷ []

-- the texts from number i on
unfoldable pub texts_from : ℕ → List (List ℕ) → List ℕ
texts_from i [] = []
texts_from i (text ∷ texts) = (comma_before i ++ text) ++ texts_from (suc i) texts
