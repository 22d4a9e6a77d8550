-- Two columns of one length, firsts one list of entries: parts, stores, reads and the columns back. Assumes nothing.
use mathlib.Core.Path.{◌≡◌, refl, ap, sym, ◌∙◌}
use mathlib.Core.List.{List, [], ◌∷◌, ◌++◌, map}
use Prim.Native.Nat.{ℕ, zero, suc}
use native.Mathlib.Omega.{arith}
use lib.ListN.{length, get_or, set}
use Rattle.order.specs.Entries.{entries, first, second}

module _ {A B : Type 0} where
  pub length-entries : (firsts : List A) (seconds : List B) → length firsts ≡ length seconds → length (entries firsts seconds) ≡ length firsts
  unfolding entries
  length-entries [] seconds h = refl
  length-entries (a ∷ firsts) [] h = absurd (omega arith)
  length-entries (a ∷ firsts) (b ∷ seconds) h = ap suc (length-entries firsts seconds (omega arith))

  pub first-entries : (firsts : List A) (seconds : List B) → length firsts ≡ length seconds → map first (entries firsts seconds) ≡ firsts
  unfolding entries
  first-entries [] seconds h = refl
  first-entries (a ∷ firsts) [] h = absurd (omega arith)
  first-entries (a ∷ firsts) (b ∷ seconds) h = ap (◌∷◌ a) (first-entries firsts seconds (omega arith))

  pub second-entries : (firsts : List A) (seconds : List B) → length firsts ≡ length seconds → map second (entries firsts seconds) ≡ seconds
  unfolding entries
  second-entries [] [] h = refl
  second-entries [] (b ∷ seconds) h = absurd (omega arith)
  second-entries (a ∷ firsts) [] h = absurd (omega arith)
  second-entries (a ∷ firsts) (b ∷ seconds) h = ap (◌∷◌ b) (second-entries firsts seconds (omega arith))

  pub entries-get_or : (firsts : List A) (seconds : List B) (i : ℕ) (a : A) (b : B) → length firsts ≡ length seconds → get_or (entries firsts seconds) i (a, b) ≡ (get_or firsts i a, get_or seconds i b)
  unfolding entries
  entries-get_or [] [] i a b h = refl
  entries-get_or [] (y ∷ seconds) i a b h = absurd (omega arith)
  entries-get_or (x ∷ firsts) [] i a b h = absurd (omega arith)
  entries-get_or (x ∷ firsts) (y ∷ seconds) zero a b h = refl
  entries-get_or (x ∷ firsts) (y ∷ seconds) (suc i) a b h = entries-get_or firsts seconds i a b (omega arith)

  pub entries-set : (firsts : List A) (seconds : List B) (i : ℕ) (a : A) (b : B) → entries (set firsts i a) (set seconds i b) ≡ set (entries firsts seconds) i (a, b)
  unfolding entries
  entries-set [] seconds i a b = refl
  entries-set (x ∷ firsts) [] zero a b = refl
  entries-set (x ∷ firsts) [] (suc i) a b = refl
  entries-set (x ∷ firsts) (y ∷ seconds) zero a b = refl
  entries-set (x ∷ firsts) (y ∷ seconds) (suc i) a b = ap (◌∷◌ (x, y)) (entries-set firsts seconds i a b)

  pub entries-columns : (l : List (A × B)) → entries (map first l) (map second l) ≡ l
  unfolding entries
  entries-columns [] = refl
  entries-columns (e ∷ l) = ap (◌∷◌ e) (entries-columns l)

  pub entries-append : (firsts : List A) (seconds : List B) (others : List A) (thirds : List B) → length firsts ≡ length seconds
      → entries (firsts ++ others) (seconds ++ thirds) ≡ entries firsts seconds ++ entries others thirds
  unfolding entries
  entries-append [] [] others thirds h = refl
  entries-append [] (b ∷ seconds) others thirds h = absurd (omega arith)
  entries-append (a ∷ firsts) [] others thirds h = absurd (omega arith)
  entries-append (a ∷ firsts) (b ∷ seconds) others thirds h = ap (◌∷◌ (a, b)) (entries-append firsts seconds others thirds (omega arith))

  -- a list that two columns make gives the columns back
  pub columns : (firsts : List A) (seconds : List B) (l : List (A × B)) → length firsts ≡ length seconds → entries firsts seconds ≡ l → (firsts ≡ map first l) × (seconds ≡ map second l)
  columns firsts seconds l h e = (sym (first-entries firsts seconds h) ∙ ap (map first) e, sym (second-entries firsts seconds h) ∙ ap (map second) e)
