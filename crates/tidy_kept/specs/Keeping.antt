-- Scrolls and speeds: which entries are kept. An entry has a beat, which stands on a row, and a value, which can be near another. Definitions only.
use Rattle.std.specs.Prelude.{ℕ, Bool, true, false, ltb, leb, eqb, length}
use mathlib.Core.List.{List, [], ◌∷◌, reverse, reverse_aux}
use Rattle.limits.specs.Table.{kept_falls}
use Rattle.limits.specs.Refusals.{long_then}
use Rattle.picks.specs.Pick.{pick}
use Rattle.order.specs.Order.{run, never_falls}

module _ {B W : Type 0} (row : B → ℕ) (near : W → W → Bool) where
  abbrev pub row_of : B × W → ℕ
  row_of e = row e.0

  -- whether the value of an entry is near that of another
  abbrev pub nearby : B × W → B × W → Bool
  nearby e other = near e.1 other.1

  -- ---- entries in order: what is kept, the last first

  -- on the row of the last one: a value near that of the one before takes the last away; any other takes its place, unless near
  unfoldable pub on_last_row : B × W → B × W → List (B × W) → List (B × W)
  on_last_row e last [] = pick (nearby e last) (last ∷ []) (e ∷ [])
  on_last_row e last (before ∷ kept) = pick (nearby e before) (before ∷ kept) (pick (nearby e last) (last ∷ before ∷ kept) (e ∷ before ∷ kept))

  -- on a later row it is kept unless near the last one
  unfoldable pub keep : B × W → List (B × W) → List (B × W)
  keep e [] = e ∷ []
  keep e (last ∷ kept) = pick (ltb (row_of last) (row_of e)) (pick (nearby e last) (last ∷ kept) (e ∷ last ∷ kept)) (on_last_row e last kept)

  -- ---- entries in no order: each is placed among the kept ones, which stand as they are to be written
  -- `front` are those on rows up to its own, the nearest first, and `rest` those behind them

  -- an entry at the beat of another
  abbrev pub moved_to : B × W → B × W → B × W
  moved_to e other = (other.0, e.1)

  -- before all others, it is held against the two that come first. Where only the second is near, that one moves to the beat, and so falls below the first
  unfoldable pub at_front : B × W → B × W → List (B × W) → List (B × W)
  at_front e first [] = pick (nearby e first) (first ∷ []) (e ∷ first ∷ [])
  at_front e first (next ∷ rest) =
      pick (nearby e next) (pick (nearby e first) (first ∷ rest) (first ∷ moved_to next e ∷ rest))
      (pick (nearby e first) (first ∷ next ∷ rest) (e ∷ first ∷ next ∷ rest))

  unfoldable pub on_row_of : B × W → B × W → Bool
  on_row_of last e = eqb (row_of last) (row_of e)

  -- the one it is held against: the last of the front, or where that is on its row the one before, if there is one
  unfoldable pub previous : B × W → B × W → List (B × W) → B × W
  previous e last [] = last
  previous e last (before ∷ front) = pick (on_row_of last e) before last

  -- the front without a last one that is on its row, unless it is the only one
  unfoldable pub cleared : B × W → B × W → List (B × W) → List (B × W)
  cleared e last [] = last ∷ []
  cleared e last (before ∷ front) = pick (on_row_of last e) (before ∷ front) (last ∷ before ∷ front)

  -- the front with the entry: in the place of a last one on its row, unless near that, or behind it
  unfoldable pub settled : B × W → B × W → List (B × W) → List (B × W)
  settled e last front = pick (on_row_of last e) (pick (nearby e last) (last ∷ front) (e ∷ front)) (e ∷ last ∷ front)

  -- the next one goes where both it and the previous one are near, and moves to the beat where it alone is
  unfoldable pub amid : B × W → B × W → List (B × W) → List (B × W) → List (B × W)
  amid e last front [] = reverse_aux (pick (nearby e (previous e last front)) (cleared e last front) (settled e last front)) []
  amid e last front (next ∷ rest) =
      pick (nearby e next)
      (pick (nearby e (previous e last front)) (reverse_aux (cleared e last front) rest) (reverse_aux (cleared e last front) (moved_to next e ∷ rest)))
      (pick (nearby e (previous e last front)) (reverse_aux (cleared e last front) (next ∷ rest)) (reverse_aux (settled e last front) (next ∷ rest)))

  unfoldable pub placed_between : B × W → List (B × W) → List (B × W) → List (B × W)
  placed_between e [] [] = e ∷ []
  placed_between e [] (first ∷ rest) = at_front e first rest
  placed_between e (last ∷ front) rest = amid e last front rest

  unfoldable pub placed_after : B × W → List (B × W) → List (B × W) → List (B × W)
  placed_after e front [] = placed_between e front []
  placed_after e front (x ∷ rest) = pick (leb (row_of x) (row_of e)) (placed_after e (x ∷ front) rest) (placed_between e front (x ∷ rest))

  abbrev pub placed : B × W → List (B × W) → List (B × W)
  placed e kept = placed_after e [] kept

  -- ---- both

  -- whether an entry is to be placed in a kept list that falls
  unfoldable pub falls_while : List (B × W) → List (B × W) → Bool
  falls_while kept [] = false
  falls_while kept (e ∷ entries) = pick (never_falls row_of kept) (falls_while (placed e kept) entries) true

  unfoldable pub kept_of : List (B × W) → List (B × W)
  kept_of entries = pick (never_falls row_of entries) (reverse (run keep [] entries)) (run placed [] entries)

  -- 6 where that is so of entries in no order
  unfoldable pub keep_number : List (B × W) → ℕ
  keep_number entries = pick (never_falls row_of entries) 0 (pick (falls_while [] entries) kept_falls 0)

  -- what placing alone refuses: more than 1,024 entries, then an entry placed in a kept list that falls
  unfoldable pub placing_number : List (B × W) → ℕ
  placing_number list = long_then (length list) (pick (falls_while [] list) kept_falls 0)
