-- Entries in order are kept in one pass that writes only what stays. Assumes nothing.
use Prim.Native.Nat.{ℕ, suc, ◌+◌, ◌≤◌, ◌<◌}
use mathlib.Core.Path.{◌≡◌, refl}
use mathlib.Core.Bool.{Bool, true, false}
use mathlib.Core.List.{List, [], ◌∷◌, reverse, reverse_aux}
use mathlib.Core.Logic.{inl, inr}
use native.Mathlib.Omega.{arith}
use lib.ListN.{length}
use lib.Dec.{ltb}
use borrow.Author.Tests.{lt-ltb, le-ltb}
use Rattle.picks.specs.Pick.{pick}
use Rattle.order.specs.Order.{run, never_falls, NeverFalls, From, Above}
use Rattle.order.proofs.Compare.{below?}
use Rattle.order.proofs.OrderedList.{never_falls_yes}
use Rattle.tidy_kept.specs.Keeping.{row_of, on_last_row, keep}
use Rattle.tidy_kept.specs.Passing.{Waiting, writes, comes, entry_passed, still_written}

-- a state, with the waiting entry as one
abbrev pub state : {B W : Type 0} → Bool → W → ℕ → B × W → Waiting B W
state waits before r c = record { before = before; waits = waits; row = r; beat = c.0; value = c.1 }

pub above-after : {A : Type 0} (key : A → ℕ) (j k : ℕ) (l : List A) → j < k → From key k l → Above key j l
above-after key j k [] h f = tt
above-after key j k (x ∷ l) h f = (omega arith, above-after key j k l h f.1)

-- `none`: a value that no value is near
module _ {B W : Type 0} (row : B → ℕ) (near : W → W → Bool) (none : W) (far : (v : W) → near v none ≡ false) where
  -- the value of the entry kept last
  abbrev top : List (B × W) → W
  top [] = none
  top (b ∷ kept) = b.1

  -- the entries to come are on later rows than those that are written
  abbrev Later : List (B × W) → List (B × W) → Type 0
  Later [] entries = Unit {0}
  Later (b ∷ kept) entries = Above (row_of row near) (row_of row near b) entries

  later-rest : (kept : List (B × W)) (e : B × W) (entries : List (B × W)) → Later kept (e ∷ entries) → Later kept entries
  later-rest [] e entries h = tt
  later-rest (b ∷ kept) e entries h = h.1

  -- what one more entry makes of the kept ones: on a later row, and on the row of the last
  kept-later : (e : B × W) (kept entries : List (B × W)) → Later kept (e ∷ entries) → keep row near e kept ≡ pick (near e.1 (top kept)) kept (e ∷ kept)
  unfolding keep
  kept-later e [] entries h = rw (far e.1)
  kept-later e (b ∷ kept) entries h = rw (lt-ltb (row b.0) (row e.0) h.0)

  kept_on_row : (e c : B × W) (kept : List (B × W)) → row e.0 ≤ row c.0
      → keep row near e (c ∷ kept) ≡ pick (near e.1 (top kept)) kept (pick (near e.1 c.1) (c ∷ kept) (e ∷ kept))
  unfolding keep on_last_row
  kept_on_row e c [] h = rw (le-ltb (row c.0) (row e.0) h, far e.1)
  kept_on_row e c (b ∷ kept) h = rw (le-ltb (row c.0) (row e.0) h)

  abbrev Written : List (B × W) → Type 0
  Written entries =
      (waits : Bool) (r : ℕ) (c : B × W) (kept : List (B × W)) → (waits ≡ true → r ≡ row c.0) → Later kept entries
      → reverse (run (keep row near) (pick waits (c ∷ kept) kept) entries) ≡ reverse_aux kept (still_written row near (state waits (top kept) r c) entries)

  module _ (entries : List (B × W)) (so : Written entries) where
    -- the next entry waits, or no one does
    settle : (e c : B × W) (r : ℕ) (kept : List (B × W)) → Later kept entries → (close : Bool)
        → reverse (run (keep row near) (pick close kept (e ∷ kept)) entries)
        ≡ reverse_aux kept (still_written row near (pick close (state false (top kept) r c) (state true (top kept) (row e.0) e)) entries)
    settle e c r kept h true = so false r c kept (λ p. let z : ◌≡◌ {A = ℕ} 0 1 = cc in absurd (omega arith)) h
    settle e c r kept h false = so true (row e.0) e kept (λ p. refl) h

    on_row : (e c : B × W) (r : ℕ) (kept : List (B × W)) → r ≡ row c.0 → Later kept entries → (close same : Bool) → near e.1 (top kept) ≡ close
        → reverse (run (keep row near) (pick close kept (pick same (c ∷ kept) (e ∷ kept))) entries)
        ≡ reverse_aux kept (still_written row near (pick close (comes row near (top kept) (state true (top kept) r c) e) (pick same (state true (top kept) r c) (comes row near (top kept) (state true (top kept) r c) e))) entries)
    on_row e c r kept w h true same n = rw n (settle e c r kept h true)
    on_row e c r kept w h false true n = so true r c kept (λ p. w) h
    on_row e c r kept w h false false n = rw n (settle e c r kept h false)

  all-written : (entries : List (B × W)) → NeverFalls (row_of row near) entries → Written entries
  unfolding still_written writes entry_passed run
  all-written [] n true r c kept w h = refl
  all-written [] n false r c kept w h = refl
  all-written (e ∷ entries) n false r c kept w h =
      rw (kept-later e kept entries h) (settle entries (all-written entries n.1) e c r kept (later-rest kept e entries h) (near e.1 (top kept)))
  all-written (e ∷ entries) n true r c kept w h = elim (below? r (row e.0)) [
    | inl l ↦
        let after : row c.0 < row e.0 = omega (arith, w refl) in
        let later : Above (row_of row near) (row c.0) (e ∷ entries) = (after, above-after (row_of row near) (row c.0) (row e.0) entries after n.0) in
        rw (lt-ltb r (row e.0) l, kept-later e (c ∷ kept) entries later)
        (settle entries (all-written entries n.1) e c r (c ∷ kept) later.1 (near e.1 c.1))
    | inr l ↦
        let before : row e.0 ≤ row c.0 = omega (arith, w refl) in
        rw (le-ltb r (row e.0) l, kept_on_row e c kept before)
        (on_row entries (all-written entries n.1) e c r kept (w refl) (later-rest kept e entries h) (near e.1 (top kept)) (near e.1 c.1) refl)
  ]

  pub in_one_pass : (r : ℕ) (c : B × W) (entries : List (B × W)) → never_falls (row_of row near) entries ≡ true
      → reverse (run (keep row near) [] entries) ≡ still_written row near (state false none r c) entries
  in_one_pass r c entries n = all-written entries (never_falls_yes (row_of row near) entries n) false r c [] (λ p. let z : ◌≡◌ {A = ℕ} 0 1 = cc in absurd (omega arith)) tt

-- no more are written than come
at_most_one : (waits : Bool) → pick {A = ℕ} waits 1 0 ≤ 1
at_most_one true = omega arith
at_most_one false = omega arith

module _ {B W : Type 0} (row : B → ℕ) (near : W → W → Bool) where
  few_so : (s : Waiting B W) (entries : List (B × W)) → length (still_written row near s entries) ≤ pick s.waits 1 0 + length entries
  unfolding still_written writes
  few_so s [] = go s.waits
    where
      go : (waits : Bool) → length {A = B × W} (pick waits ((s.beat, s.value) ∷ []) []) ≤ pick waits 1 0 + 0
      go true = omega arith
      go false = omega arith
  few_so s (e ∷ entries) = go s.waits (ltb s.row (row e.0)) (pick (entry_passed row near s e).waits 1 0) (at_most_one (entry_passed row near s e).waits) (few_so (entry_passed row near s e) entries)
    where
      go : (waits later : Bool) (k : ℕ) → k ≤ 1 → length (still_written row near (entry_passed row near s e) entries) ≤ k + length entries
          → length {A = B × W} (pick (pick waits later false) ((s.beat, s.value) ∷ still_written row near (entry_passed row near s e) entries) (still_written row near (entry_passed row near s e) entries))
          ≤ pick waits 1 0 + suc (length entries)
      go true true k h l = omega arith
      go true false k h l = omega arith
      go false later k h l = omega arith

  pub few-written : (s : Waiting B W) (entries : List (B × W)) → s.waits ≡ false → length (still_written row near s entries) ≤ length entries
  few-written s entries h =
      let none-waits : pick {A = ℕ} s.waits 1 0 ≡ 0 = rw h refl in
      omega (arith, few_so s entries)
