-- Columns with a part replaced are the entries with that part replaced. Assumes nothing.
use Prim.Native.Nat.{ℕ, zero, suc, ◌≤◌, ◌<◌}
use mathlib.Core.Path.{◌≡◌, refl, sym, ap, ◌∙◌}
use mathlib.Core.Bool.{Bool, true, false}
use mathlib.Core.List.{List, [], ◌∷◌, ◌++◌}
use native.Mathlib.Omega.{arith}
use lib.ListN.{length, take, drop, length-append, length-take, length-drop}
use lib.Seq.{take_at, length-take-le}
use borrow.Author.Tests.{lt-ltb, le-leb}
use Rattle.order.specs.Order.{laid, never_falls, may_precede}
use Rattle.order.specs.Entries.{entries}
use Rattle.order.proofs.Columns.{length-entries}
use Rattle.tidy_kept.specs.Keeping.{row_of}
use Rattle.tidy_kept.specs.Changing.{spliced, spliced_in}
use Rattle.tidy_kept.specs.inside.Changed.{count_by}

module _ {A : Type 0} where
  pub length-spliced : (low high : ℕ) (comes : Bool) (x : A) (l : List A) → low ≤ high → high ≤ length l → length (spliced low high comes x l) ≡ count_by (length l) low high comes
  unfolding spliced
  length-spliced low high true x l h k = simp (length-append, length-take, length-drop) (omega arith)
  length-spliced low high false x l h k = simp (length-append, length-take, length-drop) (omega arith)

  pub taken-spliced : (n low high : ℕ) (comes : Bool) (x : A) (column : List A) → n < length column → low ≤ high → high ≤ n
      → take (count_by n low high comes) (spliced_in n low high comes x column) ≡ spliced low high comes x (take n column)
  unfolding spliced_in laid
  taken-spliced n low high comes x column room h k =
      let many : length (take n column) ≡ n = length-take-le n column (omega arith) in
      rw (lt-ltb n (length column) room, le-leb high n k, le-leb low high h)
      (take_at (spliced low high comes x (take n column)) (drop (length (spliced low high comes x (take n column))) column) (count_by n low high comes)
      (length-spliced low high comes x (take n column) h (omega arith) ∙ ap (λ (m : ℕ). count_by m low high comes) many))

module _ {A C : Type 0} where
  pub entries-take : (n : ℕ) (a : List A) (c : List C) → entries (take n a) (take n c) ≡ take n (entries a c)
  unfolding entries
  entries-take zero a c = refl
  entries-take (suc n) [] c = refl
  entries-take (suc n) (x ∷ a) [] = refl
  entries-take (suc n) (x ∷ a) (y ∷ c) = ap (◌∷◌ (x, y)) (entries-take n a c)

  entries-drop : (n : ℕ) (a : List A) (c : List C) → length a ≡ length c → entries (drop n a) (drop n c) ≡ drop n (entries a c)
  unfolding entries
  entries-drop zero a c h = refl
  entries-drop (suc n) [] [] h = refl
  entries-drop (suc n) [] (y ∷ c) h = absurd (omega arith)
  entries-drop (suc n) (x ∷ a) [] h = absurd (omega arith)
  entries-drop (suc n) (x ∷ a) (y ∷ c) h = entries-drop n a c (omega arith)

  entries-append : (a a' : List A) (c c' : List C) → length a ≡ length c → entries (a ++ a') (c ++ c') ≡ entries a c ++ entries a' c'
  unfolding entries
  entries-append [] a' [] c' h = refl
  entries-append [] a' (y ∷ c) c' h = absurd (omega arith)
  entries-append (x ∷ a) a' [] c' h = absurd (omega arith)
  entries-append (x ∷ a) a' (y ∷ c) c' h = ap (◌∷◌ (x, y)) (entries-append a a' c c' (omega arith))

  pub entries-spliced : (low high : ℕ) (comes : Bool) (x : A) (y : C) (a : List A) (c : List C) → length a ≡ length c
      → entries (spliced low high comes x a) (spliced low high comes y c) ≡ spliced low high comes (x, y) (entries a c)
  unfolding spliced
  entries-spliced low high true x y a c h =
      entries-append (take low a) (x ∷ drop high a) (take low c) (y ∷ drop high c) (simp length-take (omega arith))
      ∙ rw (entries-take low a c) (ap (λ (l : List (A × C)). take low (entries a c) ++ l) (unfold entries in ap (◌∷◌ (x, y)) (entries-drop high a c h)))
  entries-spliced low high false x y a c h =
      entries-append (take low a) (drop high a) (take low c) (drop high c) (simp length-take (omega arith)) ∙ rw (entries-take low a c, entries-drop high a c h)

-- the same of columns of one length that lie in a room
module _ {A C : Type 0} where
  entries-laid : (a a' : List A) (c c' : List C) → length a ≡ length c → length a' ≡ length c' → entries (laid a a') (laid c c') ≡ laid (entries a c) (entries a' c')
  unfolding laid
  entries-laid a a' c c' h k =
      entries-append a (drop (length a) a') c (drop (length c) c') h
      ∙ ap (λ (l : List (A × C)). entries a c ++ l) (rw (← h, length-entries a c h) (entries-drop (length a) a' c' k))

  pub entries_spliced_in : (n low high : ℕ) (comes : Bool) (x : A) (y : C) (a : List A) (c : List C) → length a ≡ length c → n < length a → low ≤ high → high ≤ n
      → entries (spliced_in n low high comes x a) (spliced_in n low high comes y c) ≡ spliced_in n low high comes (x, y) (entries a c)
  unfolding spliced_in
  entries_spliced_in n low high comes x y a c same room h k =
      let room-c : n < length c = omega arith in
      let room-e : n < length (entries a c) = omega (arith, length-entries a c same) in
      let some_a : length (take n a) ≡ n = length-take-le n a (omega arith) in
      let some-c : length (take n c) ≡ n = length-take-le n c (omega arith) in
      let even : length (take n a) ≡ length (take n c) = some_a ∙ sym some-c in
      let size : length (spliced low high comes x (take n a)) ≡ length (spliced low high comes y (take n c)) =
      length-spliced low high comes x (take n a) h (omega arith) ∙ ap (λ (m : ℕ). count_by m low high comes) even ∙ sym (length-spliced low high comes y (take n c) h (omega arith)) in
      rw (lt-ltb n (length a) room, lt-ltb n (length c) room-c, lt-ltb n (length (entries a c)) room-e, le-leb high n k, le-leb low high h)
      (entries-laid (spliced low high comes x (take n a)) a (spliced low high comes y (take n c)) c size same
      ∙ ap (λ (l : List (A × C)). laid l (entries a c)) (entries-spliced low high comes x y (take n a) (take n c) even ∙ ap (spliced low high comes (x, y)) (entries-take n a c)))

-- the rows of entries are those of their beats
module _ {B W : Type 0} (row : B → ℕ) (near : W → W → Bool) where
  pub never_falls_entries : (beats : List B) (values : List W) → length beats ≡ length values → never_falls (row_of row near) (entries beats values) ≡ never_falls row beats
  unfolding never_falls may_precede entries
  never_falls_entries [] values h = refl
  never_falls_entries (b ∷ beats) [] h = absurd (omega arith)
  never_falls_entries (b ∷ []) (v ∷ []) h = refl
  never_falls_entries (b ∷ []) (v ∷ w ∷ values) h = absurd (omega arith)
  never_falls_entries (b ∷ c ∷ beats) (v ∷ []) h = absurd (omega arith)
  never_falls_entries (b ∷ c ∷ beats) (v ∷ w ∷ values) h = rw (never_falls_entries (c ∷ beats) (w ∷ values) (omega arith))
