-- In a column of which no number is above the next a search ends between those that are not above the number looked for and those that are. Assumes nothing.
use Rattle.std.proofs.Common.{◌≡◌, ℕ, zero, suc, ◌+◌, ◌-◌, ◌<◌, T, List, length, get_or, sym, subst, arith}
use lib.Ieee.{Float, nan, le}
use lib.Ieee.Bits.{is_true}
use Rattle.order_search.specs.Search.{place_of, SplitBy}
use Rattle.ieee.proofs.FloatsInOrder.{float_le_trans}
use Rattle.order_search.proofs.PlaceSplits.{place-splits}

module _ (at : Float) (column : List Float) (ordered : (i : ℕ) → i + 1 < length column → T (le (get_or column i nan) (get_or column (i + 1) nan))) where
  -- what is not above the number has nothing before it that is
  back : (more i : ℕ) → i + more < length column → T (le (get_or column (i + more) nan) at) → T (le (get_or column i nan) at)
  back zero i l h = let here : i + 0 ≡ i = omega arith in rw here at h
  back (suc more) i l h =
      let here : i + suc more ≡ i + 1 + more = omega arith in
      float_le_trans (get_or column i nan) (get_or column (i + 1) nan) at (ordered i (omega arith)) (back more (i + 1) (omega arith) (rw here at h))

  pub ordered-splits : SplitBy at column (place_of at column)
  ordered-splits =
      place-splits at column
      (λ i j h l e.
      let here : i + (j - i) ≡ j = omega arith in
      is_true (le (get_or column i nan) at) (back (j - i) i (omega arith) (rw here (subst T (sym e) tt))))
