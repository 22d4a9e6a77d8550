-- `ieee::narrowed` meets its contract (`NarrowBySum.antt`). Assumes nothing.
use mathlib.Core.Path.{sym, subst}
use lib.Dec.{T}
use lib.Ieee.{of_bits, div}
use Rattle.ieee.proofs.NarrowBySum.{narrow-beyond}
use Rattle.ieee.proofs.narrowed.Goals as goal

pub snapped-requires : goal.snapped-requires
unfolding of_bits
snapped-requires c = (c.requires.0, subst T (sym c.if-a.true) tt)

pub returns-then-a : goal.returns-then-a
returns-then-a c = c.snapped.ensures

pub returns-else-a : goal.returns-else-a
unfolding of_bits div
returns-else-a c = narrow-beyond c.args.a c.requires.1 c.requires.0 c.if-a.false
