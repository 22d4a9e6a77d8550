-- Two columns as one list of entries, the places of a list, and the sum of a list. Definitions only.
use Rattle.std.specs.Prelude.{ℕ, zero, suc, ◌+◌, List, [], ◌∷◌}

-- two columns as one list, as long as the shorter one
unfoldable pub entries : {A B : Type 0} → List A → List B → List (A × B)
entries [] seconds = []
entries (a ∷ firsts) [] = []
entries (a ∷ firsts) (b ∷ seconds) = (a, b) ∷ entries firsts seconds

abbrev pub first : {A B : Type 0} → A × B → A
first e = e.0

abbrev pub second : {A B : Type 0} → A × B → B
second e = e.1

-- the n places from one on
unfoldable pub places_from : ℕ → ℕ → List ℕ
places_from at zero = []
places_from at (suc n) = at ∷ places_from (suc at) n

-- the first n places: 0, 1, ..
unfoldable pub places : ℕ → List ℕ
places n = places_from 0 n

-- all numbers of a list together
unfoldable pub total : List ℕ → ℕ
total [] = 0
total (n ∷ list) = n + total list
