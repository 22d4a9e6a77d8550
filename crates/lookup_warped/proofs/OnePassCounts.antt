-- One pass is the number of warped rows, for every list whose starts never fall; and for no list is it more. Assumes nothing.
use Rattle.std.proofs.Common.{◌≡◌, ◌≤◌, List, sym, refl, ◌∙◌}
use lib.Ieee.{Float}
use Rattle.order.specs.Order.{NeverFalls}
use Rattle.rows.specs.RowKey.{row_key_of}
use Rattle.lookup_warped.specs.WarpedRows.{span, warped_rows}
use Rattle.lookup_warped.specs.OnePass.{one_pass}
use Rattle.lookup_warped.proofs.PassCountsKeys.{pass-counts, pass_at_most}
use Rattle.lookup_warped.proofs.RowsByKey.{count_by_key}

-- equal starts too
pub one_pass_counts : (warps : List (Float × Float)) → NeverFalls row_key_of warps → one_pass warps ≡ warped_rows warps
unfolding one_pass warped_rows
one_pass_counts warps p = pass-counts 0 span warps refl p ∙ sym (count_by_key warps span)

-- of a list that falls rows may be left out, and none is counted twice
pub counts_none_twice : (warps : List (Float × Float)) → one_pass warps ≤ warped_rows warps
unfolding one_pass warped_rows
counts_none_twice warps = rw (count_by_key warps span) (pass_at_most 0 span warps refl)
