-- Columns of any lengths as entries: how many, and each of them. Assumes nothing.
use Prim.Native.Nat.{ℕ, zero, suc, ◌<◌, min}
use mathlib.Core.Path.{◌≡◌, refl}
use mathlib.Core.List.{List, [], ◌∷◌}
use native.Mathlib.Omega.{arith}
use lib.ListN.{length, get_or}
use Rattle.order.specs.Entries.{entries}

module _ {A C : Type 0} where
  pub many-entries : (a : List A) (c : List C) → length (entries a c) ≡ min (length a) (length c)
  unfolding entries
  many-entries [] c = omega arith
  many-entries (x ∷ a) [] = omega arith
  many-entries (x ∷ a) (y ∷ c) = let h = many-entries a c in omega arith

  pub entry_at : (a : List A) (c : List C) (i : ℕ) (x : A) (y : C) → i < length a → i < length c → get_or (entries a c) i (x, y) ≡ (get_or a i x, get_or c i y)
  unfolding entries
  entry_at [] c i x y h k = absurd (omega arith)
  entry_at (b ∷ a) [] i x y h k = absurd (omega arith)
  entry_at (b ∷ a) (d ∷ c) zero x y h k = refl
  entry_at (b ∷ a) (d ∷ c) (suc i) x y h k = entry_at a c i x y (omega arith) (omega arith)
