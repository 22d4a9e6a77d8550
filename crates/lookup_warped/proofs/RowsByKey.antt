-- Rows by their keys, those beyond an i32 too: the order of keys is that of rows, a warp covers the rows of its keys, and so its rows are counted by keys.
-- Assumes nothing.
use Rattle.std.proofs.Common.{◌≡◌, ℕ, zero, suc, ◌+◌, ◌-◌, ◌<◌, ◌≤◌, Bool, true, false, ltb, leb, List, [], ◌∷◌, ℤ, pos, negsuc, ◌+ℤ◌, sym, refl, ap, ◌∙◌, ⊎_elim, add-one, arith, le-ltb, lt-ltb, le-leb}
use borrow.Author.Tests.{lt-leb}
use lib.IntN.{+ℤ_assoc}
use lib.Signed.{lt_z, le_z}
use lib.Ieee.{Float, binary64}
use Rattle.picks.specs.Pick.{pick}
use Rattle.order.proofs.Compare.{below?}
use Rattle.rows.specs.RowKey.{row_key_of, row_of_key}
use Rattle.rows.proofs.RowKeys.{row_of_key_lem}
use Rattle.rows.proofs.PackedOrder.{row_fits}
use Rattle.lookup_warped.specs.WarpedRows.{start_row, length_rows, covers, covered, count_rows, lowest_row}
use Rattle.lookup_warped.specs.OnePass.{end_key}
use Rattle.lookup_warped.proofs.KeysCounted.{keys_from}

-- ---- the row of a key is as many rows above the lowest
pub row_of_place : (k : ℕ) → lowest_row +ℤ pos k ≡ row_of_key k
unfolding row_of_key
row_of_place k = refl

further : (k n : ℕ) → row_of_key k +ℤ pos n ≡ row_of_key (k + n)
further k n = rw (← row_of_place k, ← row_of_place (k + n)) (+ℤ_assoc lowest_row (pos k) (pos n))

pub row_low : (k : ℕ) → k < 2147483648 → row_of_key k ≡ negsuc (2147483648 - suc k)
unfolding row_of_key
row_low k h = rw (lt-ltb k 2147483648 h)

pub row-high : (k : ℕ) → 2147483648 ≤ k → row_of_key k ≡ pos (k - 2147483648)
unfolding row_of_key
row-high k h = rw (le-ltb k 2147483648 h)

-- ---- order by keys is order by rows
alike : (a b j k : ℕ) → (j < k → a < b) → (k ≤ j → b ≤ a) → ltb a b ≡ ltb j k
alike a b j k h g = ⊎_elim (λ t. lt-ltb a b (h t) ∙ sym (lt-ltb j k t)) (λ t. le-ltb a b (g t) ∙ sym (le-ltb j k t)) (below? j k)

alike_le : (a b j k : ℕ) → (j ≤ k → a ≤ b) → (k < j → b < a) → leb a b ≡ leb j k
alike_le a b j k h g = ⊎_elim (λ t. lt-leb a b (g t) ∙ sym (lt-leb j k t)) (λ t. le-leb a b (h t) ∙ sym (le-leb j k t)) (below? k j)

below_by_key : (j k : ℕ) → lt_z (row_of_key j) (row_of_key k) ≡ ltb j k
below_by_key j k =
    ⊎_elim
    (λ a. ⊎_elim
    (λ b. rw (row_low j a, row_low k b) (alike (2147483648 - suc k) (2147483648 - suc j) j k (λ t. omega arith) (λ t. omega arith)))
    (λ b. rw (row_low j a, row-high k b) (sym (lt-ltb j k (omega arith))))
    (below? k 2147483648))
    (λ a. ⊎_elim
    (λ b. rw (row-high j a, row_low k b) (sym (le-ltb j k (omega arith))))
    (λ b. rw (row-high j a, row-high k b) (alike (j - 2147483648) (k - 2147483648) j k (λ t. omega arith) (λ t. omega arith)))
    (below? k 2147483648))
    (below? j 2147483648)

at_most_by_key : (j k : ℕ) → le_z (row_of_key j) (row_of_key k) ≡ leb j k
at_most_by_key j k =
    ⊎_elim
    (λ a. ⊎_elim
    (λ b. rw (row_low j a, row_low k b) (alike_le (2147483648 - suc k) (2147483648 - suc j) j k (λ t. omega arith) (λ t. omega arith)))
    (λ b. rw (row_low j a, row-high k b) (sym (le-leb j k (omega arith))))
    (below? k 2147483648))
    (λ a. ⊎_elim
    (λ b. rw (row-high j a, row_low k b) (sym (lt-leb j k (omega arith))))
    (λ b. rw (row-high j a, row-high k b) (alike_le (j - 2147483648) (k - 2147483648) j k (λ t. omega arith) (λ t. omega arith)))
    (below? k 2147483648))
    (below? j 2147483648)

-- ---- a warp covers the rows of its keys
unfoldable pub has_key : Float × Float → ℕ → Bool
has_key warp k = pick (leb (row_key_of warp) k) (ltb k (end_key warp)) false

unfoldable pub some_has_key : List (Float × Float) → ℕ → Bool
some_has_key [] k = false
some_has_key (warp ∷ warps) k = pick (has_key warp k) true (some_has_key warps k)

start_of_key : (warp : Float × Float) → row_of_key (row_key_of warp) ≡ start_row warp
start_of_key warp = row_of_key_lem (start_row warp) (row_fits binary64 warp.0)

end_of_key : (warp : Float × Float) → row_of_key (end_key warp) ≡ start_row warp +ℤ pos (length_rows warp.1)
end_of_key warp = sym (further (row_key_of warp) (length_rows warp.1)) ∙ ap (λ (z : ℤ). z +ℤ pos (length_rows warp.1)) (start_of_key warp)

pub covers_by_key : (warp : Float × Float) (k : ℕ) → covers warp (row_of_key k) ≡ has_key warp k
unfolding covers has_key
covers_by_key warp k =
    ap (λ (z : ℤ). pick (le_z z (row_of_key k)) (lt_z (row_of_key k) (start_row warp +ℤ pos (length_rows warp.1))) false) (sym (start_of_key warp))
    ∙ ap (λ (z : ℤ). pick (le_z (row_of_key (row_key_of warp)) (row_of_key k)) (lt_z (row_of_key k) z) false) (sym (end_of_key warp))
    ∙ ap (λ (b : Bool). pick b (lt_z (row_of_key k) (row_of_key (end_key warp))) false) (at_most_by_key (row_key_of warp) k)
    ∙ ap (λ (b : Bool). pick (leb (row_key_of warp) k) b false) (below_by_key k (end_key warp))

covered_by_key : (warps : List (Float × Float)) (k : ℕ) → covered warps (row_of_key k) ≡ some_has_key warps k
unfolding covered some_has_key
covered_by_key [] k = refl
covered_by_key (warp ∷ warps) k =
    ap (λ (b : Bool). pick b true (covered warps (row_of_key k))) (covers_by_key warp k)
    ∙ ap (λ (b : Bool). pick (has_key warp k) true b) (covered_by_key warps k)

-- ---- and so they are counted
rows_by_key : (test : ℤ → Bool) (other : ℕ → Bool) → ((k : ℕ) → test (row_of_key k) ≡ other k) → (k n : ℕ) → count_rows test (row_of_key k) n ≡ keys_from other k n
unfolding count_rows keys_from
rows_by_key test other h k zero = refl
rows_by_key test other h k (suc n) =
    ap (λ (b : Bool). pick b 1 0 + count_rows test (row_of_key k +ℤ pos 1) n) (h k)
    ∙ ap (λ (z : ℤ). pick (other k) 1 0 + count_rows test z n) (further k 1 ∙ ap row_of_key (add-one k))
    ∙ ap (λ (m : ℕ). pick (other k) 1 0 + m) (rows_by_key test other h (suc k) n)

pub count_by_key : (warps : List (Float × Float)) (n : ℕ) → count_rows (covered warps) lowest_row n ≡ keys_from (some_has_key warps) 0 n
count_by_key warps n =
    ap (λ (z : ℤ). count_rows (covered warps) z n) (row_of_place 0) ∙ rows_by_key (covered warps) (some_has_key warps) (covered_by_key warps) 0 n
