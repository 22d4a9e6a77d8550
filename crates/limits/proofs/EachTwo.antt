-- A loop that counts the neighbours which fail a test: none fails exactly where each two pass. Assumes nothing.
use Prim.Native.Nat.{ℕ, zero, suc, ◌+◌, ◌-◌, ◌≤◌, ◌<◌}
use mathlib.Core.Path.{◌≡◌, refl, sym, ap, ◌∙◌}
use mathlib.Core.Bool.{Bool}
use mathlib.Core.List.{List, [], ◌∷◌}
use native.Mathlib.Numerals.{add-one}
use native.Mathlib.Omega.{arith}
use lib.Dec.{eqb}
use lib.ListN.{length, get_or}
use Rattle.limits.specs.Numbers.{miss}
use Rattle.limits.proofs.Every.{Counted, counted-turn, counted-end}
use Rattle.limits.specs.Neighbours.{neighbours, every_two}

module _ {A : Type 0} where
  neighbours-length : (xs : List A) → length (neighbours xs) ≡ length xs - 1
  unfolding neighbours
  neighbours-length [] = refl
  neighbours-length (x ∷ []) = refl
  neighbours-length (x ∷ y ∷ l) = omega (arith, neighbours-length (y ∷ l))

  neighbour_at : (none : A) (xs : List A) (i : ℕ) → suc i < length xs → get_or (neighbours xs) i (none, none) ≡ (get_or xs i none, get_or xs (suc i) none)
  unfolding neighbours
  neighbour_at none [] i h = absurd (omega arith)
  neighbour_at none (x ∷ []) i h = absurd (omega arith)
  neighbour_at none (x ∷ y ∷ l) zero h = refl
  neighbour_at none (x ∷ y ∷ l) (suc i) h = neighbour_at none (y ∷ l) i (omega arith)

module _ {A : Type 0} (test : A → A → Bool) where
  abbrev pub passes : A × A → Bool
  passes e = test e.0 e.1

  -- after i neighbours, of which so many failed
  abbrev pub CountedTwo : List A → ℕ → ℕ → Type 0
  CountedTwo xs i fail = Counted passes (neighbours xs) i fail

  pub two-turn : (none : A) (xs : List A) {i fail : ℕ} (one : ℕ) → i + 1 < length xs → one ≡ miss passes (get_or xs i none, get_or xs (i + 1) none) → CountedTwo xs i fail → CountedTwo xs (i + 1) (fail + one)
  two-turn none xs {i} {fail} one h e c =
      let inside : i < length (neighbours xs) = omega (arith, neighbours-length xs) in
      let here : get_or (neighbours xs) i (none, none) ≡ (get_or xs i none, get_or xs (i + 1) none) = rw (add-one i) (neighbour_at none xs i (omega arith)) in
      counted-turn passes one (none, none) inside (e ∙ ap (miss passes) (sym here)) c

  pub two-end : (xs : List A) {i fail : ℕ} → length xs ≤ i + 1 → CountedTwo xs i fail → eqb fail 0 ≡ every_two test xs
  two-end xs h c = counted-end passes (omega (arith, neighbours-length xs)) c

  -- ---- the same by a loop that has come to the later one of two
  pub two-next : (none : A) (xs : List A) {i fail : ℕ} (one : ℕ) → 1 ≤ i → i < length xs → one ≡ miss passes (get_or xs (i - 1) none, get_or xs i none) → CountedTwo xs (i - 1) fail → CountedTwo xs (i + 1 - 1) (fail + one)
  two-next none xs {i} one h k e c =
      let back : i - 1 + 1 ≡ i = omega arith in
      let on : i + 1 - 1 ≡ i - 1 + 1 = omega arith in
      rw on (two-turn none xs one (rw back k) (rw back e) c)

  pub two-last : (xs : List A) {i fail : ℕ} → 1 ≤ i → length xs ≤ i → CountedTwo xs (i - 1) fail → eqb fail 0 ≡ every_two test xs
  two-last xs h l c = two-end xs (omega arith) c
