-- Small lists, mended by computation: entries are a row and a value, near within 1 of each other. Assumes nothing.
use Prim.Native.Nat.{ℕ, ◌+◌}
use mathlib.Core.Path.{◌≡◌, refl}
use mathlib.Core.Bool.{Bool, false}
use mathlib.Core.List.{[], ◌∷◌}
use lib.Dec.{leb}
use Rattle.picks.specs.Pick.{pick}
use Rattle.order.specs.Order.{run, ins, ordered, is_last, lasts}
use Rattle.mend_fates.specs.Mending.{Kept, Replaced, Merged, thinned_after, thinned, mended, some_on, last_below, near_one, fate_in, fates_in, fates}

abbrev row : ℕ × ℕ → ℕ
row e = e.0

abbrev near : ℕ × ℕ → ℕ × ℕ → Bool
near e last = pick (leb e.1 (last.1 + 1)) (leb last.1 (e.1 + 1)) false

-- near that goes one way: a value that is not above that of the last one kept
abbrev not_above : ℕ × ℕ → ℕ × ℕ → Bool
not_above e last = leb e.1 last.1

pub record SmallLists : Type 0 where
  -- 02's list: out of order, both kept
  pub out_of_order : mended row near ((4, 10) ∷ (0, 20) ∷ []) ≡ (0, 20) ∷ (4, 10) ∷ []
  pub out_of_order_fates : fates row near ((4, 10) ∷ (0, 20) ∷ []) ≡ Kept ∷ Kept ∷ []
  -- the last of a row is the one that comes last in the raw list
  pub last_of_row_lem : mended row near ((4, 10) ∷ (0, 20) ∷ (4, 30) ∷ []) ≡ (0, 20) ∷ (4, 30) ∷ []
  pub last_of_row_fates : fates row near ((4, 10) ∷ (0, 20) ∷ (4, 30) ∷ []) ≡ Replaced ∷ Kept ∷ Kept ∷ []
  -- a row whose last entry is merged has no entry: the one before it stays replaced
  pub row_lost : mended row near ((0, 10) ∷ (4, 20) ∷ (4, 10) ∷ []) ≡ (0, 10) ∷ []
  pub row_lost_fates : fates row near ((0, 10) ∷ (4, 20) ∷ (4, 10) ∷ []) ≡ Kept ∷ Replaced ∷ Merged ∷ []
  -- nothing follows from a chain: the third is held against the first, which is the last one kept
  pub chain : mended row near ((0, 10) ∷ (1, 11) ∷ (2, 12) ∷ []) ≡ (0, 10) ∷ (2, 12) ∷ []
  pub chain_fates : fates row near ((0, 10) ∷ (1, 11) ∷ (2, 12) ∷ []) ≡ Kept ∷ Merged ∷ Kept ∷ []
  -- an entry is never held against one of its own row
  pub own_row : fates row near ((4, 10) ∷ (4, 10) ∷ []) ≡ Replaced ∷ Kept ∷ []
  -- near that goes one way only
  pub one_way : fates row not_above ((0, 10) ∷ (1, 5) ∷ (2, 11) ∷ (3, 11) ∷ []) ≡ Kept ∷ Merged ∷ Kept ∷ Merged ∷ []
  pub none : mended row near [] ≡ []

pub small-lists : SmallLists
unfolding run ins ordered is_last lasts thinned_after thinned mended some_on last_below near_one fate_in fates_in fates
small-lists = record {
  out_of_order = refl;
  out_of_order_fates = refl;
  last_of_row_lem = refl;
  last_of_row_fates = refl;
  row_lost = refl;
  row_lost_fates = refl;
  chain = refl;
  chain_fates = refl;
  own_row = refl;
  one_way = refl;
  none = refl;
}
