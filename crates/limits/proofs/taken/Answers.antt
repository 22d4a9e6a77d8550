-- `limits::taken` is `inRange` at the range of the kind. Assumes nothing.
use mathlib.Core.Path.{ap, ◌∙◌}
use Rattle.limits.specs.declared.Range.{Range}
use Rattle.limits.specs.Numbers.{in_range}
use Rattle.limits.proofs.taken.Goals as goal

pub returns : goal.returns
returns c = c.in_range.ensures ∙ ap (λ (range : Range). in_range range c.args.x) c.range_of.ensures
