-- `clock_bench::number_at` reads at a place, and a NaN past the end. Assumes nothing.
use Rattle.std.proofs.Common.{sym}
use lib.ListN.{get_or-eq_default}
use lib.Ieee.{nan, div, of_bits}
use Rattle.clock_bench.proofs.number_at.Goals as goal

pub returns-then-place-column : goal.returns-then-place-column
returns-then-place-column c = c.f32_to_f64_with_nan.ensures

pub returns : goal.returns
unfolding div of_bits
returns c = sym (get_or-eq_default c.args.column.now nan c.if-place-column.false)
