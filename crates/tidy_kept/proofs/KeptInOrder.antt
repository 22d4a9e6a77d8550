-- Entries in order: they are never refused with 6, what is kept of them rises strictly by row with no two neighbours near, and keeping it again gives it back. Assumes nothing.
use Prim.Native.Nat.{ℕ, ◌≤◌, ◌<◌}
use mathlib.Core.Path.{◌≡◌, refl}
use mathlib.Core.Bool.{Bool, true, false}
use mathlib.Core.List.{List, [], ◌∷◌, reverse, reverse_aux}
use mathlib.Core.Logic.{inl, inr}
use native.Mathlib.Omega.{arith}
use borrow.Author.Tests.{lt-ltb, le-ltb}
use Rattle.picks.specs.Pick.{pick}
use Rattle.order.specs.Order.{run, never_falls, NeverFalls, From}
use Rattle.order.proofs.Compare.{below?}
use Rattle.order.proofs.OrderedList.{never_falls_yes}
use Rattle.tidy_kept.specs.Keeping.{row_of, nearby, on_last_row, keep, kept_of, keep_number}

module _ {B W : Type 0} (row : B → ℕ) (near : W → W → Bool) where
  pub in_order_never_six : (entries : List (B × W)) → never_falls (row_of row near) entries ≡ true → keep_number row near entries ≡ 0
  unfolding keep_number
  in_order_never_six entries h = rw h

  -- kept, the last first: rows fall strictly, and no entry is near the one before it
  abbrev Falling : List (B × W) → Type 0
  Falling [] = Unit {0}
  Falling (e ∷ []) = Unit {0}
  Falling (e ∷ before ∷ kept) = (row before.0 < row e.0) × (nearby row near e before ≡ false) × Falling (before ∷ kept)

  -- the last row is at most k
  abbrev UpTo : ℕ → List (B × W) → Type 0
  UpTo k [] = Unit {0}
  UpTo k (e ∷ kept) = row e.0 ≤ k

  -- the same of a list as it is written
  abbrev pub Apart : List (B × W) → Type 0
  Apart [] = Unit {0}
  Apart (e ∷ []) = Unit {0}
  Apart (e ∷ next ∷ kept) = (row e.0 < row next.0) × (nearby row near next e ≡ false) × Apart (next ∷ kept)

  put-behind : (e last : B × W) (kept : List (B × W)) (close : Bool) → nearby row near e last ≡ close → row last.0 < row e.0 → Falling (last ∷ kept)
      → Falling (pick close (last ∷ kept) (e ∷ last ∷ kept)) × UpTo (row e.0) (pick close (last ∷ kept) (e ∷ last ∷ kept))
  put-behind e last kept true n h f = (f, omega arith)
  put-behind e last kept false n h f = ((h, n, f), omega arith)

  on_row : (e last before : B × W) (kept : List (B × W)) (gone same : Bool) → nearby row near e before ≡ gone → row e.0 ≡ row last.0 → Falling (last ∷ before ∷ kept)
      → Falling (pick gone (before ∷ kept) (pick same (last ∷ before ∷ kept) (e ∷ before ∷ kept))) × UpTo (row e.0) (pick gone (before ∷ kept) (pick same (last ∷ before ∷ kept) (e ∷ before ∷ kept)))
  on_row e last before kept true same n r f = (f.2, omega (arith, f.0))
  on_row e last before kept false true n r f = (f, omega arith)
  on_row e last before kept false false n r f = ((omega (arith, f.0), n, f.2), omega arith)

  alone : (e last : B × W) (same : Bool) → row e.0 ≡ row last.0 → Falling (pick same (last ∷ []) (e ∷ [])) × UpTo (row e.0) (pick same (last ∷ []) (e ∷ []))
  alone e last true r = (tt, omega arith)
  alone e last false r = (tt, omega arith)

  keep-falling : (e : B × W) (kept : List (B × W)) → Falling kept → UpTo (row e.0) kept → Falling (keep row near e kept) × UpTo (row e.0) (keep row near e kept)
  unfolding keep on_last_row
  keep-falling e [] f u = (tt, omega arith)
  keep-falling e (last ∷ []) f u = elim (below? (row last.0) (row e.0)) [
    | inl h ↦ rw (lt-ltb (row last.0) (row e.0) h) (put-behind e last [] (nearby row near e last) refl h f)
    | inr h ↦ rw (le-ltb (row last.0) (row e.0) h) (alone e last (nearby row near e last) (omega arith))
  ]
  keep-falling e (last ∷ before ∷ kept) f u = elim (below? (row last.0) (row e.0)) [
    | inl h ↦ rw (lt-ltb (row last.0) (row e.0) h) (put-behind e last (before ∷ kept) (nearby row near e last) refl h f)
    | inr h ↦ rw (le-ltb (row last.0) (row e.0) h) (on_row e last before kept (nearby row near e before) (nearby row near e last) refl (omega arith) f)
  ]

  up-to : (j k : ℕ) (kept : List (B × W)) → j ≤ k → UpTo j kept → UpTo k kept
  up-to j k [] h u = tt
  up-to j k (e ∷ kept) h u = omega arith

  run-falling : (kept entries : List (B × W)) (k : ℕ) → Falling kept → UpTo k kept → From (row_of row near) k entries → NeverFalls (row_of row near) entries → Falling (run (keep row near) kept entries)
  unfolding run
  run-falling kept [] k f u from n = f
  run-falling kept (e ∷ entries) k f u from n =
      let next = keep-falling e kept f (up-to k (row e.0) kept from.0 u) in
      run-falling (keep row near e kept) entries (row e.0) next.0 next.1 n.0 n.1

  turned : (x : B × W) (kept behind : List (B × W)) → Falling (x ∷ kept) → Apart (x ∷ behind) → Apart (reverse_aux (x ∷ kept) behind)
  turned x [] behind f a = a
  turned x (before ∷ kept) behind f a = turned before kept (x ∷ behind) f.2 (f.0, f.1, a)

  turned-all : (kept : List (B × W)) → Falling kept → Apart (reverse kept)
  turned-all [] f = tt
  turned-all (x ∷ kept) f = turned x kept [] f tt

  from_zero : (entries : List (B × W)) → From (row_of row near) 0 entries
  from_zero [] = tt
  from_zero (e ∷ entries) = (omega arith, from_zero entries)

  -- what is kept of entries in order rises strictly by row, and no two neighbours are near
  pub kept-apart : (entries : List (B × W)) → never_falls (row_of row near) entries ≡ true → Apart (kept_of row near entries)
  unfolding kept_of
  kept-apart entries h = rw h (turned-all (run (keep row near) [] entries) (run-falling [] entries 0 tt tt (from_zero entries) (never_falls_yes (row_of row near) entries h)))

  -- ---- a list that is so apart is kept as it is
  keeps-all : (x : B × W) (kept entries : List (B × W)) → Apart (x ∷ entries) → reverse (run (keep row near) (x ∷ kept) entries) ≡ reverse_aux kept (x ∷ entries)
  unfolding run keep
  keeps-all x kept [] a = refl
  keeps-all x kept (e ∷ entries) a = rw (lt-ltb (row x.0) (row e.0) a.0, a.1) (keeps-all e (x ∷ kept) entries a.2)

  pub apart-kept : (entries : List (B × W)) → Apart entries → reverse (run (keep row near) [] entries) ≡ entries
  unfolding run keep
  apart-kept [] a = refl
  apart-kept (x ∷ entries) a = keeps-all x [] entries a
