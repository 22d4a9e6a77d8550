-- The span that warped rows are counted over has every row that a warp covers, an endless one's too; and so their number has ten digits at most. Assumes nothing.
use Rattle.std.proofs.Common.{◌≡◌, ℕ, zero, suc, ◌+◌, ◌-◌, ◌<◌, ◌≤◌, Bool, true, false, ltb, leb, List, [], ◌∷◌, ℤ, pos, negsuc, ◌+ℤ◌, sym, refl, ap, ◌∙◌, ⊎_elim, arith, ltb-true}
use borrow.Author.Tests.{lt-leb}
use lib.Signed.{mag, le_z}
use lib.Ieee.{Float, binary64}
use Rattle.picks.specs.Pick.{pick}
use Rattle.order.proofs.Compare.{below?}
use Rattle.rows.specs.RowKey.{row_key_of, row_of_key}
use Rattle.rows.proofs.PackedOrder.{row_fits}
use Rattle.rows.proofs.RowOrder.{no}
use Rattle.lookup_warped.specs.WarpedRows.{start_row, covers, covered, count_rows, lowest_row, span, InSpan, warped_rows}
use Rattle.lookup_warped.specs.OnePass.{end_key}
use Rattle.lookup_warped.proofs.RowsByKey.{row_of_place, row_low, row-high, has_key, covers_by_key}
use Rattle.lookup_warped.proofs.HowFar.{end-within}

key-within : (warp : Float × Float) (k : ℕ) → has_key warp k ≡ true → k < span
unfolding has_key
key-within warp k = by (leb (row_key_of warp) k)
  where
    by : (b : Bool) → pick b (ltb k (end_key warp)) false ≡ true → k < span
    by true e = omega (arith, ltb-true k (end_key warp) e, end-within warp)
    by false e = no e

placed : (warp : Float × Float) (r : ℤ) (k : ℕ) → row_of_key k ≡ r → covers warp r ≡ true → InSpan r
placed warp r k e c = record { place = k; below = key-within warp k (sym (covers_by_key warp k) ∙ ap (covers warp) e ∙ c); is = sym (row_of_place k ∙ e) }

-- a row below the lowest is before every start
too_low : (z : ℤ) (n : ℕ) → mag z < 2147483648 → 2147483648 ≤ n → le_z z (negsuc n) ≡ false
too_low (pos m) n h l = refl
too_low (negsuc m) n h l = lt-leb n m (omega arith)

covers_in_span : (warp : Float × Float) (r : ℤ) → covers warp r ≡ true → InSpan r
covers_in_span warp (pos n) c = placed warp (pos n) (2147483648 + n) (row-high (2147483648 + n) (omega arith) ∙ ap pos (omega arith)) c
covers_in_span warp (negsuc n) c =
    ⊎_elim (λ h. placed warp (negsuc n) (2147483648 - suc n) (row_low (2147483648 - suc n) (omega arith) ∙ ap negsuc (omega arith)) c)
    (λ h. no (sym (out h) ∙ c)) (below? n 2147483648)
  where
    out : 2147483648 ≤ n → covers warp (negsuc n) ≡ false
    out h = unfold covers in (rw (too_low (start_row warp) n (row_fits binary64 warp.0) h))

pub covered_in_span : (warps : List (Float × Float)) (r : ℤ) → covered warps r ≡ true → InSpan r
unfolding covered
covered_in_span [] r c = no c
covered_in_span (warp ∷ warps) r c = by (covers warp r) refl (λ e. covered_in_span warps r (rw e at c))
  where
    by : (b : Bool) → covers warp r ≡ b → (covers warp r ≡ false → InSpan r) → InSpan r
    by true e rest = covers_in_span warp r e
    by false e rest = rest e

-- ---- no more than all of them
pick_most : (b : Bool) → pick b 1 0 ≤ 1
pick_most true = omega arith
pick_most false = omega arith

count_most : (test : ℤ → Bool) (r : ℤ) (n : ℕ) → count_rows test r n ≤ n
unfolding count_rows
count_most test r zero = omega arith
count_most test r (suc n) = omega (arith, pick_most (test r), count_most test (r +ℤ pos 1) n)

pub at_most_span : (warps : List (Float × Float)) → warped_rows warps ≤ span
unfolding warped_rows
at_most_span warps = count_most (covered warps) lowest_row span
