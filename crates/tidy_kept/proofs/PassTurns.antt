-- One turn of the loops over the entries: what is still to be written, whether rows fall, and what is still to be placed. Assumes nothing.
use Prim.Native.Nat.{ℕ, ◌+◌, ◌≤◌, ◌<◌}
use mathlib.Core.Path.{◌≡◌, refl, sym, ◌∙◌}
use mathlib.Core.Bool.{Bool, true, false}
use mathlib.Core.List.{List, [], ◌∷◌}
use mathlib.Core.Logic.{inl, inr}
use native.Mathlib.Omega.{arith}
use native.Mathlib.Numerals.{add-one}
use lib.ListN.{length, drop, get_or, drop_of_length-le}
use lib.Seq.{drop-cons}
use lib.Dec.{ltb}
use borrow.Author.Tests.{lt-ltb, le-ltb, le-leb, lt-leb}
use Rattle.picks.specs.Pick.{pick}
use Rattle.order.specs.Order.{run, never_falls, may_precede}
use Rattle.order.proofs.Compare.{below?}
use Rattle.tidy_kept.specs.Keeping.{row_of, placed, falls_while}
use Rattle.tidy_kept.specs.Passing.{Waiting, writes, comes, entry_passed, still_written}

from-here : {A : Type 0} (l : List A) (i : ℕ) (d : A) → i < length l → drop i l ≡ get_or l i d ∷ drop (i + 1) l
from-here l i d h = rw (add-one i, drop-cons l i d h)

module _ {B W : Type 0} (row : B → ℕ) (near : W → W → Bool) where
  -- ---- entries in order
  module _ (s : Waiting B W) (e : B × W) where
    pub passed_later : s.waits ≡ true → s.row < row e.0 → entry_passed row near s e ≡ comes row near s.value s e
    unfolding entry_passed
    passed_later w h = rw (w, lt-ltb s.row (row e.0) h)

    pub passed_away : s.waits ≡ true → row e.0 ≤ s.row → near e.1 s.before ≡ true → entry_passed row near s e ≡ comes row near s.before s e
    unfolding entry_passed
    passed_away w h n = rw (w, le-ltb s.row (row e.0) h, n)

    pub passed-by : s.waits ≡ true → row e.0 ≤ s.row → near e.1 s.before ≡ false → near e.1 s.value ≡ true → entry_passed row near s e ≡ s
    unfolding entry_passed
    passed-by w h n m = rw (w, le-ltb s.row (row e.0) h, n, m)

    pub passed_over : s.waits ≡ true → row e.0 ≤ s.row → near e.1 s.before ≡ false → near e.1 s.value ≡ false → entry_passed row near s e ≡ comes row near s.before s e
    unfolding entry_passed
    passed_over w h n m = rw (w, le-ltb s.row (row e.0) h, n, m)

    pub passed-alone : s.waits ≡ false → entry_passed row near s e ≡ comes row near s.before s e
    unfolding entry_passed
    passed-alone w = rw w

  module _ (s : Waiting B W) (list : List (B × W)) (i : ℕ) (e d : B × W) (is : i < length list) (here : get_or list i d ≡ e) where
    pub writes-here : pick s.waits (ltb s.row (row e.0)) false ≡ true → still_written row near s (drop i list) ≡ (s.beat, s.value) ∷ still_written row near (entry_passed row near s e) (drop (i + 1) list)
    unfolding still_written writes
    writes-here w = rw (from-here list i d is, here, w)

    pub waits-here : pick s.waits (ltb s.row (row e.0)) false ≡ false → still_written row near s (drop i list) ≡ still_written row near (entry_passed row near s e) (drop (i + 1) list)
    unfolding still_written writes
    waits-here w = rw (from-here list i d is, here, w)

  -- with what the code holds: the state that follows, the row, and whether the waiting entry is written
  module _ (list : List (B × W)) (s next : Waiting B W) (i : ℕ) (e d : B × W) (inside : i < length list) (here : get_or list i d ≡ e) (so : next ≡ entry_passed row near s e)
      (k : ℕ) (is : k ≡ row e.0) (flag : Bool) (told : flag ≡ pick s.waits (ltb s.row k) false) where
    pub turn-writes : flag ≡ true → still_written row near s (drop i list) ≡ (s.beat, s.value) ∷ still_written row near next (drop (i + 1) list)
    turn-writes f = rw so (writes-here s list i e d inside here (rw is at (sym told ∙ f)))

    pub turn-waits : flag ≡ false → still_written row near s (drop i list) ≡ still_written row near next (drop (i + 1) list)
    turn-waits f = rw so (waits-here s list i e d inside here (rw is at (sym told ∙ f)))

  module _ (s : Waiting B W) (list : List (B × W)) (i : ℕ) (past : length list ≤ i) where
    pub one_left : s.waits ≡ true → still_written row near s (drop i list) ≡ (s.beat, s.value) ∷ []
    unfolding still_written
    one_left w = rw (drop_of_length-le list past, w)

    pub none_left : s.waits ≡ false → still_written row near s (drop i list) ≡ []
    unfolding still_written
    none_left w = rw (drop_of_length-le list past, w)

  -- ---- entries in no order
  module _ (kept list : List (B × W)) (i : ℕ) (e d : B × W) (is : i < length list) (here : get_or list i d ≡ e) where
    pub places-here : run (placed row near) kept (drop i list) ≡ run (placed row near) (placed row near e kept) (drop (i + 1) list)
    unfolding run
    places-here = rw (from-here list i d is, here)

    pub falls-here : never_falls (row_of row near) kept ≡ false → falls_while row near kept (drop i list) ≡ true
    unfolding falls_while
    falls-here n = rw (from-here list i d is, here, n)

    pub stands_here : never_falls (row_of row near) kept ≡ true → falls_while row near kept (drop i list) ≡ falls_while row near (placed row near e kept) (drop (i + 1) list)
    unfolding falls_while
    stands_here n = rw (from-here list i d is, here, n)

  module _ (kept list : List (B × W)) (i : ℕ) (past : length list ≤ i) where
    pub all_placed : run (placed row near) kept (drop i list) ≡ kept
    unfolding run
    all_placed = rw (drop_of_length-le list past)

    pub none-falls : falls_while row near kept (drop i list) ≡ false
    unfolding falls_while
    none-falls = rw (drop_of_length-le list past)

-- ---- whether rows fall, row by row
module _ {B : Type 0} (row : B → ℕ) where
  abbrev pub never_from : ℕ → List B → Bool
  never_from k [] = true
  never_from k (x ∷ l) = pick (ltb (row x) k) false (never_from (row x) l)

  from_row : (x : B) (l : List B) → never_falls row (x ∷ l) ≡ never_from (row x) l
  unfolding never_falls may_precede
  from_row x [] = refl
  from_row x (y ∷ l) = elim (below? (row y) (row x)) [
    | inl h ↦ rw (lt-leb (row x) (row y) h, lt-ltb (row y) (row x) h)
    | inr h ↦ rw (le-leb (row x) (row y) h, le-ltb (row y) (row x) h) (from_row y l)
  ]

  pub from_zero : (l : List B) → never_from 0 l ≡ never_falls row l
  from_zero [] = unfold never_falls in refl
  from_zero (x ∷ l) = rw (le-ltb (row x) 0 (omega arith)) (sym (from_row x l))

  module _ (k : ℕ) (l : List B) (i : ℕ) (none : B) (is : i < length l) where
    pub row-falls : row (get_or l i none) < k → never_from k (drop i l) ≡ false
    row-falls h = rw (from-here l i none is, lt-ltb (row (get_or l i none)) k h)

    pub row-stands : k ≤ row (get_or l i none) → never_from k (drop i l) ≡ never_from (row (get_or l i none)) (drop (i + 1) l)
    row-stands h = rw (from-here l i none is, le-ltb (row (get_or l i none)) k h)

  pub rows_end : (k : ℕ) (l : List B) (i : ℕ) → length l ≤ i → never_from k (drop i l) ≡ true
  rows_end k l i past = rw (drop_of_length-le l past)
