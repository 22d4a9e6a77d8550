-- What holds of every entry of a list in order holds of those that tidying keeps. Assumes nothing.
use Prim.Native.Nat.{ℕ}
use mathlib.Core.Path.{◌≡◌}
use mathlib.Core.Bool.{Bool, true, false}
use mathlib.Core.List.{List, [], ◌∷◌, reverse_aux, reverse}
use lib.Dec.{ltb}
use Rattle.picks.specs.Pick.{pick}
use Rattle.order.specs.Order.{run, never_falls}
use Rattle.order.proofs.OrderedList.{Each}
use Rattle.tidy_kept.specs.Keeping.{row_of, nearby, on_last_row, keep, kept_of}

module _ {B W : Type 0} (row : B → ℕ) (near : W → W → Bool) (P : B × W → Type 0) where
  abbrev All : List (B × W) → Type 0
  All list = Each (row_of row near) P list

  either : (b : Bool) (one other : List (B × W)) → All one → All other → All (pick b one other)
  either true one other p q = p
  either false one other p q = q

  each_on_row : (e last : B × W) (kept : List (B × W)) → P e → All (last ∷ kept) → All (on_last_row row near e last kept)
  unfolding on_last_row
  each_on_row e last [] p q = either (nearby row near e last) (last ∷ []) (e ∷ []) q (p, tt)
  each_on_row e last (before ∷ kept) p q =
      either (nearby row near e before) (before ∷ kept) (pick (nearby row near e last) (last ∷ before ∷ kept) (e ∷ before ∷ kept)) q.1
      (either (nearby row near e last) (last ∷ before ∷ kept) (e ∷ before ∷ kept) q (p, q.1))

  each_keep : (e : B × W) (kept : List (B × W)) → P e → All kept → All (keep row near e kept)
  unfolding keep
  each_keep e [] p q = (p, tt)
  each_keep e (last ∷ kept) p q =
      either (ltb (row_of row near last) (row_of row near e)) (pick (nearby row near e last) (last ∷ kept) (e ∷ last ∷ kept)) (on_last_row row near e last kept)
      (either (nearby row near e last) (last ∷ kept) (e ∷ last ∷ kept) q (p, q)) (each_on_row e last kept p q)

  each-run : (kept list : List (B × W)) → All kept → All list → All (run (keep row near) kept list)
  unfolding run
  each-run kept [] q p = q
  each-run kept (e ∷ list) q p = each-run (keep row near e kept) list (each_keep e kept p.0 q) p.1

  each-turned : (list behind : List (B × W)) → All list → All behind → All (reverse_aux list behind)
  each-turned [] behind p q = q
  each-turned (e ∷ list) behind p q = each-turned list (e ∷ behind) p.1 (p.0, q)

  pub each-kept : (list : List (B × W)) → never_falls (row_of row near) list ≡ true → Each (row_of row near) P list → Each (row_of row near) P (kept_of row near list)
  unfolding kept_of
  each-kept list h p = rw h (each-turned (run (keep row near) [] list) [] (each-run [] list tt p) tt)
