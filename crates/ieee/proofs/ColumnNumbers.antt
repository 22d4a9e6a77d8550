-- The numbers of a column of either format: as many as it has entries, and each in its entry's place. Assumes nothing.
use Rattle.std.proofs.Common.{ℕ, ◌≡◌, ◌<◌, ◌∙◌, List, Float, map, length, get_or, sym, ap}
use Rattle.std.proofs.lemmas.List.{get_or-map, length-map}

module _ {A : Type 0} {number : A → Float} {numbers : List A → List Float} (each : (column : List A) → numbers column ≡ map number column) (column : List A) where
  pub numbers_long : length (numbers column) ≡ length column
  numbers_long = rw (each column) (length-map column number)

  -- an entry that a loop over the column has come to
  pub number_at : (i : ℕ) (x : A) (other : Float) → i < length column → x ≡ get_or column i x → get_or (numbers column) i other ≡ number x
  number_at i x other inside here = rw (each column) (get_or-map number column i x other inside ∙ ap number (sym here))
