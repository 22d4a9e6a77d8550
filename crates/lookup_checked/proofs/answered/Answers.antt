-- `lookup_checked::answered` is the answer of a question that is taken. Assumes nothing.
use mathlib.Core.Path.{refl}
use Rattle.lookup.specs.Lookups.{looked}
use Rattle.lookup_checked.proofs.answered.Goals as goal

pub returns : goal.returns
unfolding looked
returns c = refl
