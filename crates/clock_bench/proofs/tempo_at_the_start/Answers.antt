-- `clock_bench::tempo_at_the_start` meets its contract. Assumes nothing.
use Rattle.std.proofs.Common.{◌∙◌}
use lib.Ieee.{of_bits}
use Rattle.clock_bench.proofs.WithATempo.{first-none, first_some}
use Rattle.clock_bench.proofs.tempo_at_the_start.Goals as goal

pub returns-then-tempo_values-eq0 : goal.returns-then-tempo_values-eq0
unfolding of_bits
returns-then-tempo_values-eq0 c = first-none c.args.tempo_values.now c.if-tempo_values-eq0.true

pub returns : goal.returns
returns c = c.f32_to_f64_with_nan.ensures ∙ first_some c.args.tempo_values.now c.if-tempo_values-eq0.false
