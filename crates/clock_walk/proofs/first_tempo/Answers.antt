-- `clock_walk::first_tempo` meets its contract. Assumes nothing.
use Rattle.std.proofs.Common.{◌∙◌}
use lib.Ieee.{of_bits}
use Rattle.ieee.specs.Constants.{sixty}
use Rattle.clock_walk.proofs.LastUpTo.{first-none, first_some}
use Rattle.clock_walk.proofs.first_tempo.Goals as goal

pub returns-then-tempo_values-eq0 : goal.returns-then-tempo_values-eq0
unfolding of_bits
returns-then-tempo_values-eq0 c =
    first-none sixty c.args.tempo_values.now c.if-tempo_values-eq0.true

pub returns : goal.returns
returns c =
    c.f32_to_f64_with_nan.ensures ∙ first_some sixty c.args.tempo_values.now c.if-tempo_values-eq0.false
