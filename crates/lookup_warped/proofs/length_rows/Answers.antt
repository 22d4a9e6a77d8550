-- `lookup_warped::length_rows` meets its contract, by the key of the row. Assumes nothing.
use lib.Ieee.{of_bits, binary64}
use Rattle.rows.specs.Rows.{row}
use Rattle.lookup_warped.specs.WarpedRows.{length_rows}
use Rattle.lookup_warped.proofs.HowFar.{size-key}
use Rattle.lookup_warped.proofs.length_rows.Goals as goal

pub returns-then-length : goal.returns-then-length
unfolding of_bits length_rows
returns-then-length c =
    let start = c in
    rw (c.if-length.true, c.above_zero.ensures, c.row_key.ensures, c.f32_to_f64_with_nan.ensures)
    (size-key (row binary64 start.args.length))

pub returns : goal.returns
unfolding of_bits length_rows
returns c = rw c.if-length.false
