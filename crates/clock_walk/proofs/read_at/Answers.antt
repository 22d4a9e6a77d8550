-- `clock_walk::read_at` reads at a place, and a NaN past the end. Assumes nothing.
use Rattle.std.proofs.Common.{sym}
use lib.Ieee.{div, of_bits, nan}
use lib.ListN.{get_or-eq_default}
use Rattle.clock_walk.proofs.read_at.Goals as goal

pub returns-then-place-values : goal.returns-then-place-values
returns-then-place-values c =
    c.f32_to_f64_with_nan.ensures

pub returns : goal.returns
unfolding div of_bits
returns c =
    sym (get_or-eq_default c.args.values.now nan c.if-place-values.false)
