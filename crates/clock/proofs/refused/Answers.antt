-- `clock::refused` is `refused_with`. Assumes nothing.
use mathlib.Core.Path.{refl}
use lib.Ieee.{of_bits}
use borrow.Author.Rules.{rules}
use Rattle.clock.proofs.refused.Goals as goal

pub returns : goal.returns
unfolding of_bits
returns c =
    refl
