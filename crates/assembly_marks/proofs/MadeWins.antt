-- Of each row the last warp is kept, with its own mark; so where warps are made behind those that are given, a made one wins its row, whatever is given there. Assumes nothing.
use Prim.Native.Nat.{ℕ, ◌<◌}
use mathlib.Core.Path.{◌≡◌, refl, sym, ap, ◌∙◌}
use mathlib.Core.List.{List, [], ◌∷◌, ◌++◌, map}
use mathlib.Core.Logic.{⊎_elim}
use native.Mathlib.Omega.{arith}
use lib.ListN.{length, replicate}
use lib.Ieee.{Float}
use Rattle.rows.specs.RowKey.{row_key_of}
use Rattle.order.specs.Order.{tidied, only, the_last}
use Rattle.order.specs.Entries.{entries, first, second}
use Rattle.order.proofs.Compare.{same?}
use Rattle.order.proofs.OrderedList.{Each, only_nil, only_same, only-other}
use Rattle.order.proofs.Columns.{length-entries, entries-append}
use Rattle.order.proofs.BehindWins.{behind_wins}
use Rattle.tidy_warps.specs.Marks.{Warp, warp_mark, made_mark, warps_in}
use Rattle.assembly_marks.specs.AssembledMarks.{as_made, merged_marks}

abbrev IsMade : Warp → Type 0
IsMade warp = warp_mark warp ≡ made_mark

-- ---- of warps that are made
one-made : (l : List Warp) → Each row_key_of IsMade l → 0 < length l → map warp_mark (the_last [] l) ≡ made_mark ∷ []
unfolding the_last
one-made [] p h = absurd (omega arith)
one-made (x ∷ l) p h = go x l p.0 p.1
  where
    go : (x : Warp) (l : List Warp) → IsMade x → Each row_key_of IsMade l → map warp_mark (the_last (x ∷ []) l) ≡ made_mark ∷ []
    go x [] e p = ap (λ (m : ℕ). m ∷ []) e
    go x (y ∷ l) e p = go y l p.0 p.1

only-made : (k : ℕ) (l : List Warp) → Each row_key_of IsMade l → Each row_key_of IsMade (only row_key_of k l)
only-made k [] p = rw (only_nil row_key_of k) tt
only-made k (x ∷ l) p =
    ⊎_elim (λ e. rw (only_same row_key_of k x l e) (p.0, only-made k l p.1)) (λ n. rw (only-other row_key_of k x l n) (only-made k l p.1)) (same? (row_key_of x) k)

all_made : (l : List (Float × Float)) → Each row_key_of IsMade (map as_made l)
all_made [] = tt
all_made (e ∷ l) = (refl, all_made l)

-- the law, of warps
pub made_wins : (given made : List Warp) (k : ℕ) → Each row_key_of (λ (warp : Warp). warp_mark warp ≡ made_mark) made → 0 < length (only row_key_of k made)
    → map warp_mark (only row_key_of k (tidied row_key_of (given ++ made))) ≡ made_mark ∷ []
made_wins given made k p h = ap (map warp_mark) (behind_wins row_key_of k given made h) ∙ one-made (only row_key_of k made) (only-made k made p) h

-- ---- of columns: the given ones with their marks, and behind them each that is made with 1
made_records : (l : List (Float × Float)) → warps_in (map first l) (map second l) (replicate (length l) made_mark) ≡ map as_made l
unfolding entries
made_records [] = refl
made_records (e ∷ l) = ap (◌∷◌ (as_made e)) (made_records l)

module _ (beats lengths : List Float) (marks : List ℕ) (made : List (Float × Float)) (even : length beats ≡ length lengths) (same : length beats ≡ length marks) where
  pub merged_records : warps_in (beats ++ map first made) (lengths ++ map second made) (merged_marks marks (length made)) ≡ warps_in beats lengths marks ++ map as_made made
  merged_records =
      ap (entries (beats ++ map first made)) (entries-append lengths marks (map second made) (replicate (length made) made_mark) (sym even ∙ same))
      ∙ entries-append beats (entries lengths marks) (map first made) (entries (map second made) (replicate (length made) made_mark)) (even ∙ sym (length-entries lengths marks (sym even ∙ same)))
      ∙ ap (◌++◌ (warps_in beats lengths marks)) (made_records made)

  pub made_wins_merged : (k : ℕ) → 0 < length (only row_key_of k (map as_made made))
      → map warp_mark (only row_key_of k (tidied row_key_of (warps_in (beats ++ map first made) (lengths ++ map second made) (merged_marks marks (length made))))) ≡ made_mark ∷ []
  made_wins_merged k h =
      ap (λ (l : List Warp). map warp_mark (only row_key_of k (tidied row_key_of l))) merged_records ∙ made_wins (warps_in beats lengths marks) (map as_made made) k (all_made made) h
