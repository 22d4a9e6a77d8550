-- Small lists of warps: the number of warped rows of each, computed by one pass; and a list that falls, where the pass says less. Assumes nothing.
use Rattle.std.proofs.Common.{◌≡◌, ℕ, zero, suc, Bool, true, false, List, [], ◌∷◌, ℤ, pos, negsuc, ◌+ℤ◌, sym, refl, ◌∙◌}
use lib.Ieee.{Float, fin, mul, of_int, lt}
use Rattle.ieee.specs.Rounding.{rint, hold}
use Rattle.picks.specs.Pick.{pick}
use Rattle.order.specs.Order.{never_falls, may_precede}
use Rattle.order.proofs.OrderedList.{never_falls_yes}
use Rattle.rows.specs.RowKey.{row_key, row_key_of}
use Rattle.lookup_warped.specs.WarpedRows.{length_rows, covers, covered, count_rows, lowest_row, span, warped_rows}
use Rattle.lookup_warped.specs.OnePass.{pass_on, one_pass}
use Rattle.lookup_warped.proofs.OnePassCounts.{one_pass_counts}

abbrev whole : ℕ → Float
whole n = fin false n (pos 0)

abbrev minus : ℕ → Float
minus n = fin true n (pos 0)

-- by the pass, where starts never fall
counted : (warps : List (Float × Float)) (n : ℕ) → never_falls row_key_of warps ≡ true → one_pass warps ≡ n → warped_rows warps ≡ n
counted warps n rising e = sym (one_pass_counts warps (never_falls_yes row_key_of warps rising)) ∙ e

-- 02's two warps: the second lies within the first
pub overlapping : warped_rows ((whole 0, whole 8) ∷ (whole 4, whole 1) ∷ []) ≡ 384
unfolding mul of_int lt rint hold never_falls may_precede row_key length_rows pass_on one_pass
overlapping = counted ((whole 0, whole 8) ∷ (whole 4, whole 1) ∷ []) 384 refl refl

-- 01's whole case
pub whole_case : warped_rows ((whole 4, whole 2) ∷ []) ≡ 96
unfolding mul of_int lt rint hold never_falls may_precede row_key length_rows pass_on one_pass
whole_case = counted ((whole 4, whole 2) ∷ []) 96 refl refl

-- the second reaches further
pub reaching_on : warped_rows ((whole 0, whole 4) ∷ (whole 2, whole 6) ∷ []) ≡ 384
unfolding mul of_int lt rint hold never_falls may_precede row_key length_rows pass_on one_pass
reaching_on = counted ((whole 0, whole 4) ∷ (whole 2, whole 6) ∷ []) 384 refl refl

-- both end on one row
pub equal-ends : warped_rows ((whole 0, whole 8) ∷ (whole 4, whole 4) ∷ []) ≡ 384
unfolding mul of_int lt rint hold never_falls may_precede row_key length_rows pass_on one_pass
equal-ends = counted ((whole 0, whole 8) ∷ (whole 4, whole 4) ∷ []) 384 refl refl

-- the end of one is the start of the next, and is that one's row
pub touching : warped_rows ((whole 0, whole 4) ∷ (whole 4, whole 1) ∷ []) ≡ 240
unfolding mul of_int lt rint hold never_falls may_precede row_key length_rows pass_on one_pass
touching = counted ((whole 0, whole 4) ∷ (whole 4, whole 1) ∷ []) 240 refl refl

-- an end within an earlier warp does not take the furthest one back
pub inside_then_on : warped_rows ((whole 0, whole 8) ∷ (whole 1, whole 1) ∷ (whole 4, whole 2) ∷ []) ≡ 384
unfolding mul of_int lt rint hold never_falls may_precede row_key length_rows pass_on one_pass
inside_then_on = counted ((whole 0, whole 8) ∷ (whole 1, whole 1) ∷ (whole 4, whole 2) ∷ []) 384 refl refl

-- a start below 0
pub below-zero : warped_rows ((minus 2, whole 4) ∷ (whole 1, whole 1) ∷ []) ≡ 192
unfolding mul of_int lt rint hold never_falls may_precede row_key length_rows pass_on one_pass
below-zero = counted ((minus 2, whole 4) ∷ (whole 1, whole 1) ∷ []) 192 refl refl

-- lengths that are not above 0
pub not_positive : warped_rows ((whole 0, minus 8) ∷ (whole 1, whole 0) ∷ []) ≡ 0
unfolding mul of_int lt rint hold never_falls may_precede row_key length_rows pass_on one_pass
not_positive = counted ((whole 0, minus 8) ∷ (whole 1, whole 0) ∷ []) 0 refl refl

-- a length above 0 of less than half a row, 1/256 of a beat
pub below_half_a_row : warped_rows ((whole 2, fin false 1 (negsuc 7)) ∷ []) ≡ 0
unfolding mul of_int lt rint hold never_falls may_precede row_key length_rows pass_on one_pass
below_half_a_row = counted ((whole 2, fin false 1 (negsuc 7)) ∷ []) 0 refl refl

-- one that is endless, with another within it
pub endless : warped_rows ((whole 0, whole 99999999) ∷ (whole 4, whole 1) ∷ []) ≡ 2147483647
unfolding mul of_int lt rint hold never_falls may_precede row_key length_rows pass_on one_pass
endless = counted ((whole 0, whole 99999999) ∷ (whole 4, whole 1) ∷ []) 2147483647 refl refl

-- and with one that reaches further: the end is not held
pub two-endless : warped_rows ((whole 0, whole 99999999) ∷ (whole 4, whole 99999999) ∷ []) ≡ 2147483839
unfolding mul of_int lt rint hold never_falls may_precede row_key length_rows pass_on one_pass
two-endless = counted ((whole 0, whole 99999999) ∷ (whole 4, whole 99999999) ∷ []) 2147483839 refl refl

-- no warp
pub none : warped_rows ([]) ≡ 0
unfolding mul of_int lt rint hold never_falls may_precede row_key length_rows pass_on one_pass
none = counted ([]) 0 refl refl

-- ---- a list that falls: of 384 rows the pass says 192, since it leaves out what lies before the furthest end
pub falling-passed : one_pass ((whole 4, whole 1) ∷ (whole 0, whole 8) ∷ []) ≡ 192
unfolding mul of_int lt rint hold row_key length_rows pass_on one_pass
falling-passed = refl

same_count : (test other : ℤ → Bool) → ((r : ℤ) → test r ≡ other r) → (r : ℤ) (n : ℕ) → count_rows test r n ≡ count_rows other r n
unfolding count_rows
same_count test other h r zero = refl
same_count test other h r (suc n) = rw (h r, same_count test other h (r +ℤ pos 1) n)

either_first : (a b c : Bool) → pick a true (pick b true c) ≡ pick b true (pick a true c)
either_first true true c = refl
either_first true false c = refl
either_first false b c = refl

-- the number does not ask which of two warps comes first
pub either_way : (one other : Float × Float) (warps : List (Float × Float)) → warped_rows (one ∷ other ∷ warps) ≡ warped_rows (other ∷ one ∷ warps)
unfolding warped_rows
either_way one other warps = same_count (covered (one ∷ other ∷ warps)) (covered (other ∷ one ∷ warps)) swapped lowest_row span
  where
    swapped : (r : ℤ) → covered (one ∷ other ∷ warps) r ≡ covered (other ∷ one ∷ warps) r
    swapped r = unfold covered in (either_first (covers one r) (covers other r) (covered warps r))

pub falling-counted : warped_rows ((whole 4, whole 1) ∷ (whole 0, whole 8) ∷ []) ≡ 384
falling-counted = either_way (whole 4, whole 1) (whole 0, whole 8) [] ∙ overlapping
