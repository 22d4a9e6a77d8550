-- `tidy_rows::row_pattern` is the pattern that counts rows. Assumes nothing.
use lib.Ieee.{of_bits}
use Rattle.ieee.proofs.RintBySum.{sum_number}
use Rattle.rows.proofs.RowBySum.{product, product-within}
use Rattle.tidy_rows.proofs.RowPattern.{pattern-counts}
use Rattle.tidy_rows.proofs.row_pattern.Goals as goal

pub float_to_bits-result : goal.float_to_bits-result
unfolding of_bits
float_to_bits-result c = sum_number (product c.args.beat) (product-within c.args.beat c.requires)

pub returns : goal.returns
unfolding of_bits
returns c = pattern-counts c.args.beat c.requires
